pub mod Counted
pub mod Site
pub mod Adding
