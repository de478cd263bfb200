pub mod BytesLemmas
pub mod EndLemmas
pub mod InputLemmas
pub mod NumberLemmas
pub mod TakingLemmas
pub mod TextLemmas
pub mod NumberedLines
