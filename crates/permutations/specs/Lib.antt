pub mod Tables
pub mod Onto
pub mod Lists
pub mod Choices
pub mod Partners
pub mod Scripts
pub mod Laws
