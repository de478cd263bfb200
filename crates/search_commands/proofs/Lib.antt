pub mod DeclareLemmas
pub mod CompleteLemmas
mod AgreeLemmas
pub mod WidenedLemmas
mod KeepingLemmas
pub mod RefiningLemmas
pub mod AddingLemmas
pub mod AssertingLemmas
