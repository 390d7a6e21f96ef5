pub mod Limits
pub mod Suites
pub mod Messages
pub mod Opening
pub mod Through
pub mod Indices
pub mod Slips
