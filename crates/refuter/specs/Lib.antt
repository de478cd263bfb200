pub mod Witnesses
pub mod Laws
