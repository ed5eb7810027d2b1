pub mod Word
pub mod Layout
pub mod TreeOf
pub mod Written
pub mod Law
pub mod Worked
pub mod inside
