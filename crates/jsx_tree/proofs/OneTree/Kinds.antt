-- What single kinds of rows ask of their own.
pub mod Keys
pub mod Specifiers
pub mod Members
pub mod Inits
pub mod Alone
pub mod Declarators
pub mod Imports
pub mod Exports
pub mod ForHeads
pub mod Directives
