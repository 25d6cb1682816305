mod Changes
mod RowMaps
