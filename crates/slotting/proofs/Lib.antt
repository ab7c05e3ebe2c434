-- kind 7
pub mod Options
-- kinds 8 and 10
pub mod Rates
