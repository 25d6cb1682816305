pub mod Bits
pub mod Failures
pub mod Records
pub mod Stages
