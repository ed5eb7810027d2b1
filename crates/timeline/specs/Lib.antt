pub mod Timeline
pub mod Maps
pub mod Steps
pub mod History
pub mod Joined
