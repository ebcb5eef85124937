pub mod Fed
pub mod Lending
pub mod Plugin
pub mod Same
pub mod SipHash
