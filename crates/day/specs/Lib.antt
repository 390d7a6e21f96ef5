pub mod Deeds
pub mod Balances
pub mod Days
