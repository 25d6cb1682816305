pub mod RegionLists
