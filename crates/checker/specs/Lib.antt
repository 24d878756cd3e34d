-- The one call, and the user's three demands of it: `Grading` defines what it gives; each demand is a statement of it, and a theorem under the same name in `proofs/`; `Unnamed` says what has no effect; `NotHeld` what
-- document 02's rule for unnamed locks changed; `Runs` what the grades say of every run; `Coincide` that nothing else is permitted.
pub mod Grading
pub mod Demand1
pub mod Demand2
pub mod Demand3
pub mod Unnamed
pub mod NotHeld
pub mod Runs
pub mod Coincide
-- What a method's root is graded, of a text.
pub mod RootRead
-- What the code's private functions come to. The laws behind it all are in `proofs/Laws`.
pub mod Code
