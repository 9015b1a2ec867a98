pub mod Walks
pub mod Promise
