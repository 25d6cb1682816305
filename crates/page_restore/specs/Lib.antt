pub mod Phases
pub mod Reports
pub mod Stale
