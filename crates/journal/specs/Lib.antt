pub mod Noted
pub mod Telling
pub mod Hands
pub mod Lines
pub mod Standings
pub mod Law
pub mod Steps
