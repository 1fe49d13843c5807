pub mod Gaps
pub mod Members
pub mod Listed
