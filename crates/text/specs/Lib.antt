pub mod Text
pub mod Rights
pub mod Put
pub mod Writing
