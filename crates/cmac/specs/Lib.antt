pub mod Cmac
pub mod Subkeys
pub mod Authenticating
pub mod Tags
