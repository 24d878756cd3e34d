-- What follows of the definitions.
pub mod Before
pub mod Lower
pub mod Callee
pub mod Picks
pub mod Seen
pub mod Places
pub mod See
pub mod Turns
pub mod Walk
pub mod Asked
pub mod Known
pub mod Lent
pub mod Broken
