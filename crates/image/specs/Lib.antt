pub mod Forms
pub mod Fields
pub mod Chains
pub mod Tariffs
pub mod Images
pub mod Formats
pub mod Law
