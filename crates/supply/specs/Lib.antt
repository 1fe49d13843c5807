pub mod Choice
pub mod Straight
