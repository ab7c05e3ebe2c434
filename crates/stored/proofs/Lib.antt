-- the ways out of `widen`
pub mod Widening
-- what it promises: any two outcomes are one, and wrong programs are ruled out
pub mod Unique
pub mod Impostors
