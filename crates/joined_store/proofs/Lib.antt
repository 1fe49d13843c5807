pub mod Shares
pub mod Parts
