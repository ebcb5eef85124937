pub mod Early
pub mod OneWalk
pub mod Places
pub mod Walk
