pub mod Caches
pub mod EarlyBlocks
pub mod EarlySlots
pub mod Stores
pub mod Updating
pub mod Uses
