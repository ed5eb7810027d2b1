pub mod Steps
pub mod Pending
pub mod Left
pub mod Levels
