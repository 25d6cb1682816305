pub mod Failures
pub mod Flushes
pub mod Outcomes
pub mod Wilds
