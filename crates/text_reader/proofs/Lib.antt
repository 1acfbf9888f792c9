pub mod PairRows
pub mod Reading
pub mod Bodies
pub mod Texts
