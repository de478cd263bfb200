pub mod LoadLemmas
pub mod RunLemmas
pub mod StepLemmas
pub mod EventLemmas
pub mod OneLemmas
mod IdleLemmas
