pub mod Examines
pub mod Looking
pub mod Marks
pub mod MisfitWalk
pub mod Outcomes
pub mod Starts
pub mod Survivals
