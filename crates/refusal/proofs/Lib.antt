pub mod Passing
pub mod Making
