-- Laws of key tables.
pub mod LoadingLaws
pub mod KnownLaws
pub mod SiftingLaws
pub mod RowsLaws
pub mod NodesLaws
pub mod MatchingLaws
pub mod CollectingLaws
pub mod SettlingLaws
pub mod DecidingLaws
pub mod Theorems
