pub mod Writing
pub mod Pages
pub mod Decimals
pub mod Items
pub mod Words
pub mod CurvedLines
pub mod Figures
