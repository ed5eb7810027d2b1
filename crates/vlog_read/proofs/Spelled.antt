-- What is spelled is read: by each production, from the state before it to the state after it.
pub mod Decls
pub mod Exprs
pub mod Modules
