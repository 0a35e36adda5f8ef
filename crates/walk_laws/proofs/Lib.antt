pub mod ColumnMembers
pub mod OnceLists
pub mod Prefixes
pub mod ReachOrder
pub mod RingMembers
pub mod VertexSpots
pub mod WalkedCells
