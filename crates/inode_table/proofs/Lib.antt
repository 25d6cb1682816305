pub mod Exits
pub mod InodeRules
pub mod Numbers
pub mod PassedBlocks
pub mod Stored
pub mod Used
