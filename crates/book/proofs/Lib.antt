-- the ways out of `assess`
pub mod Outcome
-- what `assess` promises
pub mod Truth
pub mod Unique
pub mod Impostors
