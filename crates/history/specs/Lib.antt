pub mod Refusals
pub mod States
pub mod Edits
pub mod Histories
pub mod Model
pub mod Standing
