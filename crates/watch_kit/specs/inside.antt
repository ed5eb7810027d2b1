pub mod Keys
pub mod Counting
pub mod Moving
pub mod Splitting
