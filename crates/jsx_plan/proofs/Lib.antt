pub mod Solid
pub mod Noted
pub mod Gathering
pub mod Spanning
pub mod Printing
pub mod Planning
pub mod Folding
