pub mod References
pub mod Additions
pub mod Stores
pub mod Outcomes
pub mod Operations
pub mod Shaped
pub mod OutcomesInCode
