pub mod Grids
pub mod Orders
pub mod Drawing
pub mod Loops
pub mod FilesPut
pub mod Ends
mod GridExamples
pub mod Sides
mod SideExamples
