pub mod Changes
pub mod Entries
pub mod EntryRules
pub mod ViewLaws
pub mod Views
