-- Laws of numbers as bytes, and of bytes that are written.
pub mod PartsLaws
pub mod PlacedLaws
mod GroupsLaws
pub mod NumberLaws
mod ReadingLaws
pub mod GlancingLaws
mod WritingLaws
mod Examples
