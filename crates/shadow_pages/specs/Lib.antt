pub mod Steps
pub mod Updates
