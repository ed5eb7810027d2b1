pub mod NamedTable
pub mod Law
