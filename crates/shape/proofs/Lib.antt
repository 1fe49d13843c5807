pub mod Builds
pub mod Products
pub mod TopLevel
pub mod Cases
