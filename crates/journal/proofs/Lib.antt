pub mod Accounts
pub mod Agreeing
pub mod Growing
pub mod AtMeter
pub mod AtTill
pub mod NextCall
pub mod Honouring
pub mod Keeping
