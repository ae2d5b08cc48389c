pub mod Places
pub mod Clearings
pub mod Eliminations
pub mod Columns
pub mod Parts
pub mod Sizes
