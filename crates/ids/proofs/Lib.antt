pub mod Files
pub mod Law
pub mod Pieces
pub mod Reading
pub mod Refusals
pub mod Splits
pub mod Values
