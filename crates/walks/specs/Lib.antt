pub mod ColumnLists
pub mod ColumnWalks
pub mod Standing
pub mod Walks
