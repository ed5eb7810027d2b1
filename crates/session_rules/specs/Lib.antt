pub mod Take
pub mod React
pub mod Session
pub mod Journal
pub mod Law
