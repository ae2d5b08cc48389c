pub mod Blocks
pub mod Buffers
