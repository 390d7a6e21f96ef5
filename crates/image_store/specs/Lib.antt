pub mod Stores
pub mod StoreLaws
