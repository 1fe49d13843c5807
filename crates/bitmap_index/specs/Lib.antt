pub mod Bitmap
pub mod Members
