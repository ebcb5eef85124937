pub mod Equality
pub mod Sets
pub mod Ending
pub mod Waiting
pub mod Handed
pub mod Delayed
pub mod Order
pub mod Names
pub mod Texts
mod Examples
