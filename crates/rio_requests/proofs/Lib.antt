pub mod AnswerRules
pub mod Common
pub mod CrashFiles
pub mod CrashRules
pub mod WentRules
