pub mod Field
pub mod Substitution
pub mod Aes
pub mod Words
pub mod Expansion
pub mod Keyed
pub mod Examples
