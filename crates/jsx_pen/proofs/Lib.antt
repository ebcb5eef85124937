pub mod Characters
pub mod Writing
pub mod Phases
pub mod Marking
pub mod Laid
pub mod Rows
pub mod Noting
pub mod Fitting
