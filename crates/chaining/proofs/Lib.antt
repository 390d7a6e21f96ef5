pub mod Chaining
pub mod Numbers
