pub mod ListMem
pub mod PhysMem
pub mod RawWords
pub mod WordsLent
