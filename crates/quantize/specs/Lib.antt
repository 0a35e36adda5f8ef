pub mod Monotone
pub mod Quantize
