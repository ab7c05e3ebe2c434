pub mod Behind
pub mod Texts
