pub mod Answered
pub mod BootRules
pub mod Causes
mod Drawing
pub mod FailedBoots
pub mod FailingCalls
mod FileSizes
mod FreshDisks
mod FreshMemory
pub mod Handing
mod Listing
pub mod ManyBoots
pub mod PartsMachines
pub mod ServedBoots
mod Tallies
mod Telling
