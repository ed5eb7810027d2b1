-- A deterministic machine for the grammar, by which the code and the grammar are compared. Only contracts of functions
-- that aren't public name it; what the crate promises is told by the grammar alone.
pub mod State
pub mod Step
pub mod Reads
pub mod Taken
