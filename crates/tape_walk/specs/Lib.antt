pub mod Effects
pub mod Points
pub mod Known
