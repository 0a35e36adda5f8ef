pub mod Numbers
pub mod Seams
