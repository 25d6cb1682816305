pub mod DiskSteps
pub mod Places
pub mod Ran
pub mod Runs
pub mod ScratchWords
pub mod StepRuns
pub mod WordRuns
