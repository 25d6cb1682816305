pub mod DirtyEntries
pub mod Exits
pub mod Marks
pub mod Settled
pub mod Steps
pub mod Walks
