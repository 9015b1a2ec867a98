pub mod Promise
pub mod Kinds
pub mod Becoming
