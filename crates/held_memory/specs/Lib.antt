pub mod Held
pub mod HeldEnds
pub mod WordFiles
