-- Document 01's "Frames" and "Refusal numbers".
-- What a reader has to believe, in the paper's order: the program that a text stands for; every number of the layout; frames and what is due;
-- refusal 5; refusal 6; the tables; the ops by name; reading; the refusals' numbers.
pub mod Program
pub mod Layout
pub mod Frames
pub mod Ranges
pub mod Links
pub mod Tables
pub mod Ops
pub mod Reading
pub mod Refusals
-- What is promised of it: each refusal names the first fault, a program that reads is well formed, and all that reading comes to.
pub mod FirstFault
pub mod WellFormed
pub mod Promises
-- What the code's private functions come to, and the laws behind it all.
pub mod Code
pub mod Laws
