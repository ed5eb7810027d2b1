pub mod TextLemmas
pub mod Truth
