pub mod Counting
pub mod Drawing
pub mod Tills
