pub mod TestServers
