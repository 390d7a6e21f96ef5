pub mod Examples
pub mod Expanding
pub mod Fill
pub mod MixTable
pub mod Rounding
pub mod SboxTable
pub mod Table
pub mod Xors
