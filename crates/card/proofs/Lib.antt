pub mod Rows
pub mod Runs
pub mod Scale
pub mod Numbers
pub mod Entries
pub mod Laid
pub mod Required
