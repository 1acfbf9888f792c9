pub mod Codes
pub mod Tests
