pub mod Decimal
pub mod Puts
pub mod Lines
pub mod Between
