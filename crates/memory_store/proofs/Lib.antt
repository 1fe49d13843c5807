pub mod Bytes
pub mod Meanings
pub mod Written
