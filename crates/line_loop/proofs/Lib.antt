pub mod Leaving
pub mod Running
pub mod Turns
pub mod Waits
