pub mod Answered
pub mod Least
pub mod Totals
pub mod Quotients
pub mod Arrays
