pub mod Joined
pub mod Whole
pub mod Inner
pub mod Wide
