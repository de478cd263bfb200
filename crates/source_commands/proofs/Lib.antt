pub mod SourceLemmas
pub mod PartLemmas
pub mod AssembleLemmas
pub mod LaterLemmas
