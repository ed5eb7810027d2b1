pub mod Agree
pub mod Placed
pub mod Pins
pub mod Walk
pub mod Walks
