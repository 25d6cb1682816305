pub mod TestFiles
