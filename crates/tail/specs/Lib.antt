pub mod Look
pub mod Walk
