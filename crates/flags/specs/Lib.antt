pub mod Word
pub mod Planes
pub mod Missing
