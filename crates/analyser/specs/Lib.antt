pub mod Accepted
pub mod Attempts
pub mod Versions
