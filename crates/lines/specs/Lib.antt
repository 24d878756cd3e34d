-- Document 01's "Lines of digits .., one frame a line", and the reader.
-- `Lines`, `Places` and `Reader` define; `InOrder` says that a reader gives out a text's frames in order; `Laws` says what follows of each.
pub mod Lines
pub mod Places
pub mod Reader
pub mod InOrder
pub mod Laws
