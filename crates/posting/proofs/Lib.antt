-- loops over lists
pub mod Loops
-- 14's test of one currency
pub mod Limit
-- plus or minus by the side, and a column
pub mod Sides
-- a record let in by 14, and one that is not
pub mod Admission
