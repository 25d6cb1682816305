pub mod Checking
mod FormatEnds
pub mod FreshPairs
mod InputLines
pub mod Listings
pub mod ServeEndings
mod ServeRefusals
mod ServedPairs
mod StopCauses
mod StoppedMachines
pub mod Telling
