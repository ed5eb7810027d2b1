pub mod Growing
pub mod Told
pub mod ToldAll
pub mod Commands
pub mod Marks
pub mod Giving
