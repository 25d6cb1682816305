pub mod Flushing
