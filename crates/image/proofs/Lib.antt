pub mod Numbers
pub mod Halves
pub mod Puts
pub mod Listed
pub mod Chains
pub mod Tariffs
pub mod Images
