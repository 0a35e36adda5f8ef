pub mod Accepted
pub mod Asked
pub mod Kept
pub mod LawHolds
pub mod Moving
pub mod Performing
pub mod Steps
