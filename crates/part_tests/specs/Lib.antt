pub mod LampLaws
pub mod Lamps
pub mod PastFiles
