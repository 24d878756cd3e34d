-- What follows of the definitions, most of it under their names.
pub mod Calls
pub mod Meaning
pub mod Lowest
pub mod Rounds
pub mod Constraints
pub mod Answers
pub mod Declarations
pub mod Changes
pub mod Changed
pub mod Tree
pub mod SameRoots
pub mod Unnamed
pub mod NotHeldCalls
pub mod NotHeld
pub mod NeverHeld
