pub mod Rows
pub mod Bodies
pub mod Texts
