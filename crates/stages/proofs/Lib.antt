pub mod Tying
pub mod Copying
pub mod Opening
pub mod Conserving
