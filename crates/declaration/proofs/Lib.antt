pub mod LineLemmas
pub mod DraftLemmas
pub mod RuleLemmas
pub mod IsDeclaredLemmas
pub mod ReadingLemmas
pub mod AnswerLemmas
mod OwnerLemmas
