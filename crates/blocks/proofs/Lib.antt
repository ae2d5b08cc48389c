pub mod Squares
pub mod Adds
pub mod FormsBuilt
pub mod Shapes
