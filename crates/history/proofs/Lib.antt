pub mod RefusalsFacts
pub mod Drawings
pub mod StandingKept
pub mod CallsKept
pub mod EditsMade
pub mod PartsKept
