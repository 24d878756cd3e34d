-- Document 02's W-207, "Show me why": the steps of a reason, and what is known of them.
-- Read, in this order: `Steps` (what a reason is), `Reason` (what is known of each), `Enough` (what makes it a reason), `Cases` (reasons computed).
-- `proofs/Laws` has the proofs.
pub mod Steps
pub mod Reason
pub mod Enough
pub mod Cases
