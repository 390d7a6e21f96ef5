pub mod Tagging
