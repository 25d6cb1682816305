pub mod EndsAs
pub mod HeldRegions
pub mod Lists
pub mod OneRegion
pub mod ReadySound
pub mod RecoverTurns
pub mod SameDisk
