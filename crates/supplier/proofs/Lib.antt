pub mod Rings
pub mod Windows
pub mod Finders
pub mod Books
pub mod Recents
pub mod Deliveries
pub mod Services
pub mod Naming
