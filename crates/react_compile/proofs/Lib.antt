pub mod Sources
pub mod Views
pub mod Sinks
pub mod Completeness
mod Examples
pub mod Tests
pub mod Characters
pub mod Becomes
pub mod Words
pub mod Tags
pub mod Quoted
pub mod Quoting
pub mod Refusals
pub mod EarlyErrors
pub mod Walking
pub mod Lowering
