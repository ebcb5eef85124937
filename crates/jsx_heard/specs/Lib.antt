pub mod Bytes
pub mod Code
pub mod Early
pub mod Said
