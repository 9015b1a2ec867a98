pub mod Gathering
pub mod Settling
pub mod Showing
pub mod Writing
pub mod Promise
pub mod Deciding
