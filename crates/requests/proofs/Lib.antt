pub mod BlockLemmas
pub mod DemandLemmas
