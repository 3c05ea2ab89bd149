pub mod Least
pub mod Search
