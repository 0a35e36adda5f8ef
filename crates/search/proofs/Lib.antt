pub mod FromOn
pub mod Handing
pub mod SubLists
pub mod WiderBoxes
