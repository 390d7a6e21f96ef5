pub mod Spelled
pub mod Walk
pub mod Soundness
