pub mod Level
pub mod Data
pub mod Adds
pub mod Splice
