pub mod Ends
pub mod Failures
pub mod Marks
pub mod Regions
pub mod Steps
