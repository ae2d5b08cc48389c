pub mod Sessions
pub mod Words
pub mod Lending
