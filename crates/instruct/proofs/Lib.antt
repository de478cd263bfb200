pub mod Tests
pub mod KindLemmas
pub mod Spaces
mod Decoded
