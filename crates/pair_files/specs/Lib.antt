pub mod Ends
pub mod Images
pub mod Loads
pub mod Pairs
pub mod Saves
pub mod Scenes
pub mod Stages
