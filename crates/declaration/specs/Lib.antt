pub mod Declaration
pub mod DeclarationInCode
pub mod Lines
pub mod Text
pub mod Drafts
pub mod Written
pub mod Laws
