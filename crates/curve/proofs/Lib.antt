-- the last four changes in the code's form
pub mod Changes
-- s, and the range of shocked rates
pub mod Rates
