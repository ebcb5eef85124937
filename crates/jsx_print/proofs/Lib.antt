pub mod Productions
pub mod Bodies
pub mod Prints
