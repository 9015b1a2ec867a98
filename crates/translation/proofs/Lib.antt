-- Laws of the translation.
pub mod OrderLaws
pub mod TurnsLaws
pub mod WritingLaws
pub mod SectionsLaws
pub mod BecomingLaws
pub mod GoodLaws
pub mod KeyTableLaws
pub mod AnswersLaws
pub mod Theorems
pub mod Examples
