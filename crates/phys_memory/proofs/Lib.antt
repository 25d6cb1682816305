mod Lent
mod Rows
mod Sharing
mod Spans
mod Values
mod Walks
