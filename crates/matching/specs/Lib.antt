pub mod Held
pub mod Matching
pub mod Records
pub mod Opening
