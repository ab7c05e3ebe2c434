-- figures filled currency by currency
pub mod Currencies
-- the changes and the tolerances of the first so many currencies
pub mod Progress
-- where the report's parts stand in its room
pub mod ReportParts
-- totals that agree have the same report
pub mod SameReport
-- the arrays of an accepted book keep the bounds, and report what its records come to
pub mod KeptRecords
