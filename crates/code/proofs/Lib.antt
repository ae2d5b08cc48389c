pub mod Rotations
pub mod Sums
