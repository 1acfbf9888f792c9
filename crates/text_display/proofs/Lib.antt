pub mod Displays
pub mod Owning
pub mod Readings
pub mod Writing
