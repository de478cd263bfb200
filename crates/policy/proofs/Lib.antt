pub mod CallLemmas
pub mod LegalLemmas
pub mod CodeLemmas
pub mod WatchLemmas
pub mod TellLemmas
pub mod RunLemmas
pub mod HoldLemmas
pub mod LawLemmas
mod DeclaredLemmas
