pub mod Marks
pub mod Needed
pub mod Kept
