pub mod Cells
pub mod Shapes
pub mod Buffers
