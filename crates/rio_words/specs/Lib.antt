pub mod Clap
pub mod Matched
pub mod Plans
pub mod Tokens
pub mod Words
