pub mod EntailLemmas
pub mod OutcomeLemmas
pub mod SkipLemmas
pub mod EachRelation
pub mod CarryingLemmas
pub mod RowsLemmas
pub mod ComesLemmas
pub mod OneTarget
