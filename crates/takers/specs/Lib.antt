pub mod Bands
pub mod Totals
