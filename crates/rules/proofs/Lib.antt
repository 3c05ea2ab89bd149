pub mod Laws
pub mod Bits
pub mod Lowest
pub mod Counted
pub mod Decided
pub mod Outcomes
pub mod Pinned
pub mod Masks
