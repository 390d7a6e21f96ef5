pub mod Ff1
pub mod Laws
pub mod Sizes
pub mod Network
pub mod Preparing
pub mod Ciphering
pub mod CipheringLaws
