pub mod Bounds
pub mod SeamNumbers
