pub mod Law
pub mod Past
pub mod Present
pub mod Runs
