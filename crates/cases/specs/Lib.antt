pub mod Cases
pub mod Writing
