pub mod Layers
pub mod Questions
pub mod Makings
pub mod Carrying
pub mod Sheets
