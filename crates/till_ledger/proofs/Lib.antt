pub mod Hands
pub mod Dealing
pub mod Obeying
pub mod Listing
