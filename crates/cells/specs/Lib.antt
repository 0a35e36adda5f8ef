pub mod Cells
pub mod Statuses
