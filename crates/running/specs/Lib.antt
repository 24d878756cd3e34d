-- What a grade says of a run: that a method graded atomic runs as if alone.
-- Read, in this order: `Machine` (what a step is, and a history of them), `Threads` (what a method's code does, step by step), `Runs` (what a run
-- of a program is, and the two statements: disciplined, serialised). `Movers` has the steps that can be exchanged. `proofs/Laws` has the proofs.
pub mod Machine
pub mod Threads
pub mod Runs
pub mod Movers
pub mod Teeth
