-- Laws of marks.
pub mod MarksLaws
pub mod ThroughLaws
pub mod OrderLaws
pub mod NeededLaws
pub mod KeptLaws
pub mod Theorems
