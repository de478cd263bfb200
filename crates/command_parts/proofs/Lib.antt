pub mod InputLemmas
pub mod TextLemmas
pub mod AnswerLemmas
