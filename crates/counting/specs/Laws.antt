-- Tests and choices; counting below a bound; lists by number.
pub mod Tests
pub mod Counting
pub mod Lists
