pub mod AnyOrderFolds
pub mod DrawnFit
pub mod NumberOrder
pub mod WholeWalks
