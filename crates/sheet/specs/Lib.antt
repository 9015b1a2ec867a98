pub mod Finds
pub mod Walks
pub mod Known
pub mod Listings
