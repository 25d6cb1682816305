mod Commands
mod Few
mod Planned
mod Runnable
