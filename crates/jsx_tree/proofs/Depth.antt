-- Depth: what a tree's signs add to the node round them, and fronts of a text.
pub mod Shallow
pub mod Flat
pub mod Nodes
pub mod Reach
pub mod Parts
pub mod Rising
pub mod Opened
mod Examples
