-- the bucket of a term, by the ends around its months
pub mod Ends
-- how far exponents reach
pub mod Reach
