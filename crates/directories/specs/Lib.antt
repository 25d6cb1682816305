pub mod Contents
pub mod Entries
pub mod Plans
pub mod Reading
pub mod RowChanges
pub mod Rows
