-- What every other crate counts with. `Counting` defines; `Laws` says what follows.
pub mod Counting
pub mod Laws
