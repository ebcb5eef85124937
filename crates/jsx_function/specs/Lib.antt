pub mod Covers
pub mod Within
pub mod Elements
pub mod Functions
pub mod Patterns
pub mod Methods
pub mod Classes
