pub mod Alike
pub mod Opening
pub mod Ruling
