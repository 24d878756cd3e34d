-- What follows of the definitions, under their names; and that the engine has room for every text that reads.
pub mod Room
pub mod Solved
pub mod Grading
pub mod ChangedLines
pub mod Root
