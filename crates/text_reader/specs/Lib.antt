pub mod Pairs
pub mod Codes
pub mod Answers
pub mod Content
