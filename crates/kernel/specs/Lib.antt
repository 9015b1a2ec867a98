-- What a host is told: the number and values of each answer, and what the functions of the interface promise.
pub mod Answers
pub mod Promises
