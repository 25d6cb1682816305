pub mod Inodes
