mod Lexing
mod Literals
mod PlaceExamples
pub mod Automata
pub mod Families
pub mod Fronts
pub mod Between
pub mod FileAt
pub mod FileEnds
pub mod FileOrder
pub mod FirstLine
pub mod Gains
pub mod Gaps
pub mod Lexemes
pub mod LineAt
pub mod LineParts
pub mod Longest
pub mod Ranges
pub mod PlacedComments
pub mod Spans
pub mod SpanLines
pub mod SpotAt
pub mod TokenStates
pub mod Strings
pub mod Templates
pub mod Walks
pub mod WholeTokens
