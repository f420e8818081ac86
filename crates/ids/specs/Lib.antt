pub mod Add
pub mod Fault
pub mod File
pub mod Guard
pub mod Lines
pub mod Place
pub mod Size
pub mod Value
