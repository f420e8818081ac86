pub mod Distinct
pub mod Word
