pub mod Guards
pub mod Standing
