pub mod Obeying
pub mod Pushing
pub mod Splits
mod Ways
