pub mod Fields
pub mod Recovery
