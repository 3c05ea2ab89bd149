pub mod Bytes
pub mod Description
pub mod Load
pub mod Write
pub mod Sample
pub mod Starred
