pub mod Walking
pub mod Telling
pub mod Deciding
