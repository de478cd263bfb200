pub mod UnsafeLemmas
pub mod TapeLemmas
