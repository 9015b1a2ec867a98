-- What the reviewer's tool says.
pub mod Bindings
pub mod Steps
pub mod Words
