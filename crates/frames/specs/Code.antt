-- What the code's private functions come to. Nobody has to believe these: the laws say how they meet the definitions.
pub mod Marks
pub mod Steps
