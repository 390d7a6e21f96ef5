pub mod Reading
pub mod Rules
pub mod Judging
pub mod Stages
