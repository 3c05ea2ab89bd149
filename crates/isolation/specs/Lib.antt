pub mod Histories
pub mod Isolation
