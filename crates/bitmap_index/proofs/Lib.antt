pub mod Bits
pub mod Counts
pub mod Kept
pub mod OneRow
