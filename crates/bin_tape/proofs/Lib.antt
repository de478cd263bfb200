pub mod Decides
pub mod Images
pub mod Means
pub mod Parsed
pub mod Runs
pub mod Served
pub mod FromSource
pub mod GoesOn
pub mod OneAnswer
mod Stopped
pub mod WordFrames
pub mod ReadBack
pub mod Lengths
