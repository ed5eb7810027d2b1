pub mod Sound
pub mod Draws
