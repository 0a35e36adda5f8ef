pub mod Flagged
pub mod Grids
pub mod Tables
