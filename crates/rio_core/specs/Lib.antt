pub mod CallEnds
pub mod LineLaws
pub mod Lines
pub mod Regions
pub mod Replying
pub mod Serving
