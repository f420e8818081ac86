pub mod Tell
pub mod Walk
