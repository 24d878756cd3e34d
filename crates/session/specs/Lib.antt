-- What the grading program prints for a text: `Writing` (a frame as a line), `Session`, `Page` (a page handed out); `SessionFacts` says what holds of
-- every session.
pub mod Writing
pub mod Session
pub mod Page
pub mod SessionFacts
-- What is printed of a broken declaration, and that it is true.
pub mod Breach
pub mod BreachFacts
