pub mod Initials
pub mod Heads
pub mod Labels
pub mod OpenIn
pub mod Functions
