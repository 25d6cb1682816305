pub mod Changes
pub mod Committing
pub mod Planned
