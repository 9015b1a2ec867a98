-- What is read and written.
pub mod Counts
pub mod Digits
