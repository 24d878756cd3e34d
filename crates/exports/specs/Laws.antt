-- What follows of the definition, under its name.
pub mod Record
