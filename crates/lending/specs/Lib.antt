pub mod Records
pub mod Working
