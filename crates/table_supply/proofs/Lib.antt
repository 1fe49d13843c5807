pub mod Converse
pub mod Inverting
pub mod Noting
pub mod Sums
