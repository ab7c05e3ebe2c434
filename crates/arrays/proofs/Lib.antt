-- a record joined to its currency's part, one law for every array
pub mod Parts
-- the arrays of nothing kept, of one record more, and read back
pub mod More
-- what the arrays of good records keep to, and a currency's parts
pub mod Bounds
-- 14 by a currency's own parts
pub mod Limit
-- the masks, and their edges
pub mod Sets
pub mod Last
pub mod MaskCases
-- a place reads the same by the records kept, by the arrays and by a currency's parts
pub mod Agree
