-- nineteen amounts of a body
pub mod AmountRange
-- rows filled bucket by bucket
pub mod Columns
-- kinds 4 and 6
pub mod DepositRows
-- kind 5
pub mod Prepayment
