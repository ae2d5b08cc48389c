pub mod Matrices
pub mod Solutions
pub mod Transforms
