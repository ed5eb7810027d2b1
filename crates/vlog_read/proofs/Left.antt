-- What is left completes: for each state, the tokens that make a sentence of what was read so far.
pub mod Ends
pub mod Tokens
pub mod Decls
pub mod Exprs
pub mod Modules
pub mod Completions
