pub mod Chaining
pub mod Heading
pub mod Joining
pub mod Numbers
pub mod Powers
pub mod Returning
pub mod Rounding
