pub mod Kitted
pub mod Served
pub mod Conserving
