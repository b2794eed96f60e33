pub mod Days
pub mod Joins
pub mod Least
pub mod Ranges
pub mod Refusals
