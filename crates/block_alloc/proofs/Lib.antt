pub mod Ranges
pub mod Bits
mod Ends
pub mod Marks
pub mod Free
