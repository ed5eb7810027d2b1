pub mod Causes
pub mod Texts
pub mod Reserved
pub mod LineWords
pub mod RuleNames
