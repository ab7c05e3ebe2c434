-- what stands at a place
pub mod Places
