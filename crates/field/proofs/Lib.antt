pub mod Steps
pub mod Logarithms
pub mod Horner
pub mod SymbolTests
