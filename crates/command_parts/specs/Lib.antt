pub mod Writes
pub mod Inputs
pub mod Faults
pub mod Statuses
pub mod Dumping
pub mod Messages
pub mod Answers
pub mod Visible
