pub mod Numbers
pub mod Words
pub mod Checks
pub mod Making
