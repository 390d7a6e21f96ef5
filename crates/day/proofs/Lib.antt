pub mod Adding
pub mod Agreement
