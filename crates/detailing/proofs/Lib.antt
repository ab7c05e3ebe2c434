pub mod Accepted
pub mod KeptText
pub mod Detailing
