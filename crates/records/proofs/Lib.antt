pub mod Spelling
pub mod Progress
pub mod Marking
pub mod Splitting
pub mod Returning
