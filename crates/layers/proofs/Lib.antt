pub mod Topped
pub mod Asking
pub mod Rows
pub mod Conserving
