-- What follows of the definitions, under their names.
pub mod Lines
pub mod Places
pub mod Reader
