-- The layout of a tree that fits reads back: signs by signs, row by row, and the whole program.
pub mod Basics
pub mod Joins
pub mod RowChecks
pub mod Punctuators
pub mod TokenEnds
pub mod Leaves
pub mod Signs
pub mod NextTokens
pub mod NextInRow
pub mod Rows
pub mod RowTable
pub mod Trees
pub mod Nodes
pub mod Keys
pub mod Fronts
pub mod CommentGaps
pub mod KeptComments
pub mod WithComments
pub mod Programs
mod Examples
