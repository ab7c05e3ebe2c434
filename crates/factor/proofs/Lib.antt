-- the table's rule, entry by entry, and what is worked out
pub mod Entries
-- the product's two loops
pub mod Digits
-- the start by the sign
pub mod Signs
