pub mod Added
mod Field
pub mod Images
pub mod Totals
pub mod Inputs
pub mod Rights
pub mod Pinned
