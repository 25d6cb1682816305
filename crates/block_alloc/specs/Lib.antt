pub mod Bitmap
pub mod Words
