pub mod Addresses
pub mod Lines
pub mod Located
pub mod Names
pub mod Programs
pub mod Tagged
pub mod Within
