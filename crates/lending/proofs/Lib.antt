-- a currency's parts, put back
pub mod Parts
