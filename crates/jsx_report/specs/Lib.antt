pub mod Same
pub mod Emitter
pub mod Books
pub mod Made
pub mod Handler
pub mod Builder
pub mod Ending
pub mod Stop
