pub mod Lists
pub mod Trees
pub mod Levels
pub mod Changes
pub mod Rows
pub mod Words
pub mod Maps
