-- rows of nineteen, one for each of the three rates
pub mod Rows
-- the flows of a record, kind by kind
pub mod RecordFlows
