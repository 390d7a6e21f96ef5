pub mod Feistel
