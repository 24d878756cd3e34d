-- What the code's private functions come to. Nobody has to believe these: the laws say how they meet the definitions.
pub mod Before
pub mod Lower
pub mod Callee
pub mod Picks
pub mod Places
pub mod Walk
pub mod Known
pub mod Asked
pub mod Lent
pub mod Broken
