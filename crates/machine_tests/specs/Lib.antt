pub mod TestMachines
pub mod Walks
