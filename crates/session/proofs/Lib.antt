-- The laws behind the proofs of the session.
pub mod Laws
