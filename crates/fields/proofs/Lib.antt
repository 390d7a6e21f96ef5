pub mod Steps
pub mod Cutting
pub mod Rows
pub mod Spells
pub mod Pasted
