pub mod CellOrder
pub mod FloatLe
pub mod NextWhole
pub mod Rounding
pub mod Whole
