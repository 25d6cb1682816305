pub mod Memos
pub mod Walks
