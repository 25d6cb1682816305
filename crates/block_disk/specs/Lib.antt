pub mod BlockLists
pub mod HostDisks
pub mod MemDisks
