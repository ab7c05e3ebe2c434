pub mod Written
pub mod Pages
pub mod Longest
