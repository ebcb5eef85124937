pub mod Covers
pub mod Elements
pub mod Gathering
pub mod Supers
