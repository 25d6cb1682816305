pub mod BoardLaws
pub mod Boards
pub mod Guards
