pub mod Each
pub mod Lists
pub mod Depths
pub mod Laws
pub mod Programs
mod Examples
