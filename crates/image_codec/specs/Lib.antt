pub mod Image
pub mod Volume
