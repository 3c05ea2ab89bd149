pub mod Ancestors
pub mod Plan
pub mod Ways
