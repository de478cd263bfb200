pub mod Numbers
pub mod Expressions
pub mod Acts
pub mod Sources
pub mod Listings
pub mod SourceInCode
pub mod Programs
pub mod Laws
