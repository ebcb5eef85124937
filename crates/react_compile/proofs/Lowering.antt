-- Elements lowered to calls: what is printed of a program then fits, and is code for it.
pub mod Types
pub mod Calls
pub mod Free
pub mod Standing
pub mod Visiting
pub mod Programs
