pub mod Limits
pub mod Lengths
pub mod WriteBehind
pub mod WriteBehindLaws
pub mod Quota
pub mod QuotaLaws
pub mod Lag
pub mod Passing
