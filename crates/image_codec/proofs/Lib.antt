pub mod Rules
pub mod Fresh
