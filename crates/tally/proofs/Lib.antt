pub mod Counting
pub mod Progress
