-- the loops over a deposit's and a loan's buckets
pub mod DepositLaws
pub mod LoanLaws
