-- the answers of `assess` and `widen` as a number and a place
pub mod FaceLaws
-- any two outcomes are one
pub mod Unique
