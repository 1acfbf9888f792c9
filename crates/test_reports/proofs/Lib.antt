pub mod Called
pub mod FirstThree
