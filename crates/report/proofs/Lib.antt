pub mod Padding
pub mod Outcomes
pub mod Observations
pub mod Found
