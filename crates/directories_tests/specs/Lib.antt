pub mod TestDirs
