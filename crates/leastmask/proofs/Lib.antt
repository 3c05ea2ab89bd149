pub mod Pairs
pub mod Starts
pub mod Pinned
