pub mod MachineLasts
mod Quiet
mod Scenes
