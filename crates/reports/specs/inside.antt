pub mod Spaced
pub mod Fault
pub mod Below
pub mod Links
pub mod PinCounts
pub mod Found
