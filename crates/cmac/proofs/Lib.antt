pub mod Lasting
pub mod Making
