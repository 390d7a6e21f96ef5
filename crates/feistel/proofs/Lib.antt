pub mod Modular
pub mod Undoing
