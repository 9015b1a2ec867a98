-- What key tables hold, and what is decided over them.
pub mod Loading
pub mod Keeping
pub mod Nodes
pub mod Matching
pub mod Deciding
pub mod Settling
