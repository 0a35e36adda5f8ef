pub mod FirstLaw
pub mod Firsts
pub mod Literals
pub mod Order
