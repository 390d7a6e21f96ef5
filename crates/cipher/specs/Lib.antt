pub mod Widths
pub mod Clearing
pub mod ClearingLaws
