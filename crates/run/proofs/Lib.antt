pub mod Parts
pub mod Steps
pub mod Sent
pub mod Given
pub mod Examples
pub mod Pinned
pub mod Spelled
