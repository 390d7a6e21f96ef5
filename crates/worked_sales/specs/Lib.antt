pub mod Printed
pub mod Run
