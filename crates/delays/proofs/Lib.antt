pub mod Lateness
pub mod Conserving
