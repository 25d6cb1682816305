pub mod Boots
pub mod Examining
pub mod Reboots
