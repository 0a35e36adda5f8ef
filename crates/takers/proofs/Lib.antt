pub mod BandOrder
pub mod TotalOrder
