pub mod Test
pub mod Table
pub mod Examples
pub mod Costliest
pub mod Clearing
