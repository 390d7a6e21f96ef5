pub mod Limits
pub mod Bits
pub mod Recovery
pub mod Marks
pub mod Replay
