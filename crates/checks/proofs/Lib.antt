pub mod Turns
pub mod Parts
pub mod Places
pub mod Card
