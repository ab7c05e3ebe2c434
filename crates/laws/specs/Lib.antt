pub mod Tests
pub mod Integers
pub mod Sums
pub mod Nearest
pub mod Ratio
pub mod Lists
pub mod Digits
pub mod Series
