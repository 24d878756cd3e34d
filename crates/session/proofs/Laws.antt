-- What follows of the definitions, under their names.
pub mod Writing
pub mod Page
pub mod Session
pub mod Breach
