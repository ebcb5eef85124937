pub mod Noted
pub mod Plan
