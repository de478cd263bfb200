pub mod Cells
pub mod Machine
pub mod Runs
pub mod Steps
pub mod Fetch
pub mod Mq
pub mod Laws
