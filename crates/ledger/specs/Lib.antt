pub mod Noted
pub mod Journal
pub mod Law
pub mod Steps
pub mod Ledgers
