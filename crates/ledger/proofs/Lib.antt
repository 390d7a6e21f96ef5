pub mod Standings
pub mod Growing
pub mod NextCall
pub mod Continuing
pub mod Listing
