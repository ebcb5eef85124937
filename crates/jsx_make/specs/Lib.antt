pub mod Members
pub mod NodeSpans
