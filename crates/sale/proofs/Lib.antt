pub mod Sealed
pub mod Filling
pub mod Printed
