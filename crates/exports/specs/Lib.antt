-- The record that a call from another language gets.
pub mod Record
pub mod Laws
