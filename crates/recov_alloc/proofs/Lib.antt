pub mod BitRuns
pub mod Fits
pub mod Marks
pub mod MarksLaws
pub mod Outcomes
pub mod Reaches
