-- a field, and fields in a row, by the paper's definitions
pub mod FieldLaws
pub mod Ranges
pub mod Reading
pub mod AmountLaws
pub mod RateLaws
