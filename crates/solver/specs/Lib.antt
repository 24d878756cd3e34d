-- What the solver's code works out, in the words of `meaning`.
-- `Solved` says what checked tables come to, of `Flat` (flat tables of grades), `Findings` (the closed constraints) and `Room` (what the engine has
-- no room for).
pub mod Nodes
pub mod Flat
pub mod Findings
pub mod Room
pub mod Solved
pub mod Root
pub mod Rises
-- What the code's private functions come to, and the laws behind it all.
pub mod Code
pub mod Laws
