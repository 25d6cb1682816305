pub mod EntryFails
pub mod FileFails
pub mod FilePair
pub mod FileReads
pub mod FileStands
pub mod FileState
pub mod FileVolume
pub mod InodeFails
pub mod LoopFails
pub mod MadeVolumes
pub mod RegionFails
pub mod SmallHeld
pub mod SmallVolumes
mod StoredBeside
mod Touched
