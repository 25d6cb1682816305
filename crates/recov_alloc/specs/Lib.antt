pub mod Extents
pub mod Failures
pub mod Marks
pub mod Scans
