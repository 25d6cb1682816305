pub mod Played
pub mod Viewed
