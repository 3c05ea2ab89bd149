pub mod Registers
pub mod Domains
pub mod Refusals
