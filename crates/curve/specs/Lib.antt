pub mod Shocked
