pub mod Meters
pub mod Answering
pub mod Telling
pub mod Writing
pub mod Journals
