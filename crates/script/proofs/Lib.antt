pub mod Numbers
pub mod Copies
pub mod Log
pub mod Scripts
pub mod Examples
pub mod Replay
