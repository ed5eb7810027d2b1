pub mod Mods
pub mod inside
