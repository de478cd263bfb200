pub mod SourceTexts
pub mod AssembleText
pub mod WrittenSource
