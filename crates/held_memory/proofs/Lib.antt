mod Filling
mod HostWrites
pub mod Passing
mod RunFronts
pub mod WordBytes
