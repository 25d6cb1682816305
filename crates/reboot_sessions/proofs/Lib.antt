pub mod Cores
pub mod Layouts
