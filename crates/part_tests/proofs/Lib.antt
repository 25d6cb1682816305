mod Fronts
pub mod Layouts
mod Settled
