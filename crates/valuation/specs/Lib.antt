pub mod Lengths
pub mod Bounds
pub mod Closing
