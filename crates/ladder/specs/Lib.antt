pub mod Ends
pub mod Reach
