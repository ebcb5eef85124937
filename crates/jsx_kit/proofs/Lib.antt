pub mod Absorbing
pub mod Hashing
pub mod Reducing
pub mod Walks
