pub mod BlankImages
pub mod CachePlaces
pub mod DirtyPages
pub mod TestImages
pub mod TwoEntries
pub mod WalkNames
