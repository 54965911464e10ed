pub mod Listed
pub mod Columns
pub mod Made
pub mod Walks
pub mod Counts
pub mod Images
