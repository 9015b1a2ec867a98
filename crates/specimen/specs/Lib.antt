-- How a byte is written, and tables with other spaces.
pub mod Digits
pub mod Tables
