-- Laws of what a host is told.
pub mod AnswersLaws
pub mod FitsLaws
pub mod PlacesLaws
pub mod Theorems
pub mod WrittenLaws
