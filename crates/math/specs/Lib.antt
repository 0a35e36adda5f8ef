pub mod Boxes
pub mod Constants
pub mod Heights
pub mod Lines
pub mod Scales
