-- Reading a row: what goes along the row of a kind is what the definitions read, for every kind.
pub mod Bridge
pub mod Texts
pub mod Stopping
pub mod Guarded
mod Table
pub mod Placing
pub mod Firsts
pub mod Closers
pub mod Bodies
pub mod Laws
pub mod Words
pub mod Steps
pub mod Turns
pub mod Lists
pub mod Optionals
pub mod Lines
pub mod Spines
pub mod Growing
pub mod Joining
pub mod Targets
