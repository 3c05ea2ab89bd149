mod Puts
pub mod Sums
pub mod Decimals
pub mod Printed
mod Examples
pub mod Pinned
pub mod RightsPinned
