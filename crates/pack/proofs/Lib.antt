pub mod Checks
pub mod Outcomes
