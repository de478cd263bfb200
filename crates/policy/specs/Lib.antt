pub mod Calls
pub mod Rules
pub mod Runs
pub mod Watching
pub mod Decided
pub mod OpenCalls
pub mod WatchedSteps
pub mod Laws
