-- What the code's private functions come to.
pub mod Steps
