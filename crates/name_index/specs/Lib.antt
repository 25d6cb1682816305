pub mod Agreeing
pub mod Rows
