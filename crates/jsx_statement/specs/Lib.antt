pub mod Statements
pub mod Seats
pub mod Within
pub mod Cases
pub mod Labels
pub mod Tries
pub mod Directives
pub mod Inners
