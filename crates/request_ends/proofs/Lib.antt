pub mod AnsweredAt
pub mod CallEnds
pub mod Common
pub mod EndRules
pub mod Failed
pub mod Reading
pub mod Unchanged
