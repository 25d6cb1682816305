pub mod Changes
mod EntryRuns
pub mod Exits
pub mod Flags
pub mod ImageRules
pub mod PagePlaces
pub mod Places
pub mod Retags
mod RuleChain
pub mod Views
