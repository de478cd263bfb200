pub mod Proposals
pub mod Widths
pub mod Widenings
pub mod Obstacles
