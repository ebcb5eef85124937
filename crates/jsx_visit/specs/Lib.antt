pub mod Parts
pub mod Visit
