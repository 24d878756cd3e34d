-- What follows of the definitions, most of it under their names.
pub mod Tables
pub mod Program
pub mod Ranges
pub mod Ops
pub mod Links
pub mod Marks
pub mod Owners
pub mod Stored
pub mod Agree
pub mod Steps
pub mod Sound
pub mod Going
pub mod OneText
pub mod WholeText
pub mod WellFormed
pub mod FirstFault
pub mod SoFar
