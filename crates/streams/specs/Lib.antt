pub mod Bytes
pub mod Input
pub mod Taking
pub mod Text
pub mod TextLeft
