pub mod FrontRules
pub mod SpanRules
