pub mod AbsenceLemmas
pub mod FindingLemmas
pub mod ReachedLemmas
