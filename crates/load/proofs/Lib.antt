-- the walk's invariant, and its end
pub mod Invariant
-- a turn of the walk
pub mod WalkLaws
-- 15
pub mod LoadLaws
-- any two outcomes are one
pub mod Unique
