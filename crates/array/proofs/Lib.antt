pub mod CellsFacts
