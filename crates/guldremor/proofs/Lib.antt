pub mod Numerals
pub mod Fronts
