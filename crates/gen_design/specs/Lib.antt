pub mod Random
pub mod Made
pub mod Turn
pub mod Examples
pub mod Law
