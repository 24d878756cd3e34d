pub mod Laws
pub mod Demand1
pub mod Demand2
pub mod Demand3
pub mod NotHeld
pub mod Unnamed
pub mod Runs
