pub mod Words
pub mod Lanes
pub mod Links
pub mod Bits
pub mod Operate
pub mod Iterating
pub mod Ranging
