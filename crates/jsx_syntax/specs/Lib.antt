pub mod Items
pub mod Programs
pub mod Parsed
pub mod Specifiers
