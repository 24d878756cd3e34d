-- What follows of the definitions, under their names.
pub mod Grades
pub mod Access
pub mod Guards
pub mod HeldSets
