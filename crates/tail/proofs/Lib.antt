pub mod Mask
pub mod Checks
pub mod Turns
pub mod Count
pub mod Place
