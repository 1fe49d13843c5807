pub mod Rounds
pub mod Keyed
pub mod Lawfulness
pub mod Undoing
pub mod Widths
