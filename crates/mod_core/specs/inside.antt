pub mod Linked
pub mod Good
pub mod Changes
pub mod Kept
