pub mod Reaching
pub mod RingNumbers
pub mod SharedVertices
pub mod Walked
