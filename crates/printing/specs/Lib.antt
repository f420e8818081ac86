pub mod Greatest
pub mod Label
pub mod Naming
pub mod Opened
pub mod Width
