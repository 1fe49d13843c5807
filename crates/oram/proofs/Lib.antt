pub mod Emptiness
pub mod Loads
pub mod Suits
