-- What follows of the definitions, most of it under their names.
pub mod Views
pub mod Engine
pub mod Flat
pub mod Rounds
pub mod Findings
pub mod Room
pub mod Root
pub mod Rises
