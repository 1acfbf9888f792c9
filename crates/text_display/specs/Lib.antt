pub mod Steps
pub mod Reading
