pub mod Findings
pub mod Laws
pub mod Pages
