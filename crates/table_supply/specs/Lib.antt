pub mod Table
pub mod Inverses
pub mod Right
