pub mod WalkRules
