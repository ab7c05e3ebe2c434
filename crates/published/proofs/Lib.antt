-- what a list tells of a body
pub mod Lines
-- what the `_` of a list's arms tells
pub mod NotListed
