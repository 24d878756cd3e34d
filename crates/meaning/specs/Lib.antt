-- Document 01's "What each node means" and "Constraints and the answer", with document 02's W-204, and what demands 2 and 3 say.
-- Read, in this order: `Meaning`, `Lowest`, `Constraints` (what is defined), `Cases` (document 01's proved cases), `Demand2`, `Changes`,
-- `Demand3`, `Tree`, `Unnamed`, `NotHeld`. `proofs/` has the two demands as theorems, and `proofs/Laws` the proofs behind them.
pub mod Meaning
pub mod Lowest
pub mod Constraints
pub mod Cases
pub mod Demand2
pub mod Changes
pub mod Demand3
pub mod Tree
pub mod Unnamed
pub mod NotHeld
