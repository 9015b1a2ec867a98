pub mod EnteringLaws
pub mod WalkingLaws
pub mod HoldingLaws
pub mod AnswersLaws
pub mod Theorems
