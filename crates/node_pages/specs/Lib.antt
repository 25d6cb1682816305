pub mod Changes
pub mod Failures
pub mod LookingUp
pub mod Staging
pub mod Updating
pub mod WordBytes
