pub mod Parser
pub mod Exact
