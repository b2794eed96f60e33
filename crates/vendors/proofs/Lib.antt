pub mod Rising
pub mod Weeks
