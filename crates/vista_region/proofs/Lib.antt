mod Blocks
mod Bytes
mod Covered
pub mod Ended
mod Exits
mod Gets
mod Heaps
mod MarkRows
mod Nodes
mod Outcomes
mod Puts
mod Ranges
mod Spans
mod Words
pub mod Common
