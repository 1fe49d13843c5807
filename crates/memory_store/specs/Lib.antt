pub mod Memory
pub mod Meaning
pub mod Slots
