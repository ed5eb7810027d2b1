pub mod FilesLemmas
pub mod WriteLemmas
pub mod GainsLemmas
