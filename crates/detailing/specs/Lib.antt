pub mod Detailed
