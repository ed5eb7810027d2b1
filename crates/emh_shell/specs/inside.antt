pub mod Churning
pub mod Ends
pub mod Halts
pub mod Replies
pub mod Telling
