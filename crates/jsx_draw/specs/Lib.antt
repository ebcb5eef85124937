pub mod Annotation
pub mod Grid
pub mod Spots
pub mod Drawn
pub mod Views
