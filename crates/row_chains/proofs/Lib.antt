pub mod KeyLemmas
pub mod ChainLemmas
pub mod TableLemmas
pub mod PaysLemmas
pub mod LiveLemmas
pub mod FindLemmas
