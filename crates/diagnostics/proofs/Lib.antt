pub mod BoundLemmas
pub mod CheckLemmas
pub mod OmissionLemmas
