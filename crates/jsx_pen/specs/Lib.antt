pub mod Ascii
pub mod Calls
pub mod Pen
pub mod Steps
