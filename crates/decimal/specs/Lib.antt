pub mod Digits
pub mod CheckDigits
pub mod Groups
pub mod Slips
pub mod Laws
