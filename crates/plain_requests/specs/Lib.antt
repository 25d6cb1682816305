pub mod OnRegions
