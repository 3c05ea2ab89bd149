pub mod Settled
pub mod Alone
pub mod Isolation
pub mod Examples
pub mod Pinned
