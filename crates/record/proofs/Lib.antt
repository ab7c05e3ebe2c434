-- a body decoded field by field, and the rules after its fields
pub mod BodyLaws
-- the first bucket at fault, or none
pub mod Firsts
-- the end of a curve
pub mod CurveLaws
-- a contract permits one answer
pub mod Unique
