pub mod Ledgers
pub mod Closing
