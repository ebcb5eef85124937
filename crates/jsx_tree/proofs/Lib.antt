pub mod Samples
mod Reading
mod Rules
mod Legality
pub mod Laws
pub mod Views
pub mod Telling
pub mod Tokens
pub mod Apart
pub mod Signs
pub mod Rows
pub mod OneTree
mod Patterns
mod Classes
mod Expressions
mod Statements
mod Semicolons
mod Modules
mod JsxForms
mod Depths
pub mod Depth
mod Layouts
mod Programs
mod Corners
mod Places
mod Names
pub mod ReadBack
pub mod Parentheses
