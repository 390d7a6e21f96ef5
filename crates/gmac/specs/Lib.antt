pub mod Gmac
pub mod Authenticating
pub mod Tags
