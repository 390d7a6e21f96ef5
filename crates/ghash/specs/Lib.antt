pub mod Ghash
pub mod Folding
pub mod Products
pub mod Keyed
