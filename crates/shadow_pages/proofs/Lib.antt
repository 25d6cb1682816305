mod ClosedPages
mod Exits
pub mod Gates
pub mod Restores
pub mod Shadows
pub mod Steps
