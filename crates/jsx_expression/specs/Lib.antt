pub mod Covers
pub mod Arrows
