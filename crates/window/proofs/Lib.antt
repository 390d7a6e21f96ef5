pub mod BitLaws
pub mod MarkLaws
pub mod Counting
pub mod Recovery
pub mod Replay
