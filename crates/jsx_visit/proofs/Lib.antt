pub mod Halves
pub mod Layers
pub mod Lists
pub mod Keeping
pub mod Outcomes
pub mod Pairs
pub mod Remade
pub mod Visits
