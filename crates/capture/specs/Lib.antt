pub mod FrameTexts
pub mod Reports
pub mod Tallies
