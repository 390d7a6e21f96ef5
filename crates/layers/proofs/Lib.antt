pub mod Lag
pub mod Passing
