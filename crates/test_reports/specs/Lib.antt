pub mod FirstThree
