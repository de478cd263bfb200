pub mod Laws
pub mod InOrder
