pub mod Order
pub mod Ports
pub mod Outline
