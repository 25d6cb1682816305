pub mod BytesAnswered
pub mod FileData
pub mod FileEnded
pub mod MemoData
