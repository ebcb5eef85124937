pub mod Equality
mod SpliceExamples
pub mod Splicing
