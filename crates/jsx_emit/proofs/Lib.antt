pub mod Moves
pub mod Cells
pub mod Painting
pub mod Standing
pub mod Reaches
pub mod Told
pub mod ToldSingle
pub mod Blocks
pub mod Part
pub mod LineRows
pub mod WideRows
pub mod WideBlocks
pub mod ToldWide
pub mod Sole
pub mod Own
pub mod Pages
pub mod Children
pub mod Each
pub mod Ends
pub mod Labels
pub mod Long
pub mod Places
pub mod Short
pub mod Rows
pub mod Sources
pub mod Whole
pub mod Marks
pub mod Ways
pub mod Width
mod PageExamples
mod LayoutExamples
mod ShowsExamples
