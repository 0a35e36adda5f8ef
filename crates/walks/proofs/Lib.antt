pub mod ColumnSteps
pub mod Progress
