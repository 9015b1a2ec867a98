pub mod MatchingLaws
pub mod HeldLaws
pub mod AskedLaws
pub mod OpenedLaws
