-- coupons at regular periods
pub mod Periods
-- a period's share
mod PeriodShare
-- whole periods by a product
mod Shares
