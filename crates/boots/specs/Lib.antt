pub mod Boots
pub mod Copies
pub mod Legal
pub mod Parts
pub mod Plans
pub mod Summaries
pub mod Told
