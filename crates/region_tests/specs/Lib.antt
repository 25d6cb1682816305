pub mod TestRegions
