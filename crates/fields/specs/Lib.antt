pub mod Options
pub mod Spelling
pub mod Fields
pub mod Cuts
pub mod Puts
pub mod Law
