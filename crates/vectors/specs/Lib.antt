-- What the answer lines say.
pub mod Hashes
pub mod Kinds
pub mod Lines
pub mod Sheets
