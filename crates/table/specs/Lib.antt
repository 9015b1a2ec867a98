pub mod Sections
pub mod ReadTable
pub mod ReadKeyTable
pub mod Kept
pub mod Finding
