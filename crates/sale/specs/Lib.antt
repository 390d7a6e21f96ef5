pub mod Sales
pub mod Slips
