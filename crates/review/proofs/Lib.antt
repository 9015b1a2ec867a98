-- Laws of the reviewer's tool.
pub mod FoundLaws
pub mod WordsLaws
