pub mod Walk
pub mod Load
