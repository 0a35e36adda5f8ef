pub mod BoxLists
pub mod Corners
pub mod Triangles
pub mod Widening
