pub mod Observing
pub mod Answers
pub mod inside
