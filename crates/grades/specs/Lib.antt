-- Document 01's "Grades and their arithmetic", and the part of "What each node means" that looks at no node.
-- `Grades`, `Access`, `Guards` and `HeldSets` define; `Cases` has the paper's proved cases; `proofs/Laws` says what follows.
pub mod Grades
pub mod Access
pub mod Guards
pub mod HeldSets
pub mod Cases
