pub mod MapLemmas
pub mod StepLemmas
pub mod TimelineLemmas
pub mod JoinedLemmas
