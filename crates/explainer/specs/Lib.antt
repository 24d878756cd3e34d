-- What an explanation comes to.
pub mod Explain
pub mod InNumbers
pub mod Broken
pub mod Code
pub mod Refused
