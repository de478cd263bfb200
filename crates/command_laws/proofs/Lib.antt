pub mod Answered
pub mod SessionsAnswered
pub mod SourceLaws
pub mod OneLemmas
mod VerdictLaws
pub mod TableLaws
mod OrderLemmas
