pub mod NodeSpans
pub mod Making
