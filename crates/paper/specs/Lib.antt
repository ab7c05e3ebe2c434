-- Document 01, section by section.

-- What the product covers
pub mod Scales
-- Time ladder
pub mod Ladder
-- Records: the kinds and their bodies, and what each puts into a scenario and a bucket
pub mod Records
pub mod Fields
pub mod Decode
pub mod Behaviour
pub mod Flow
-- Curves and shocks
pub mod Series
pub mod Curve
-- Published shock sizes (02, request 5)
pub mod Letters
pub mod Published
-- Discount factor, in billionths
pub mod Factor
-- From flows to verdict, and demand 3
pub mod Ledger
pub mod Change
pub mod Verdict
pub mod Exact
pub mod Demand3
-- Turned down: the numbers, the circumstance of each, and their order in a book
pub mod Refusals
pub mod TurnedDown
pub mod Book
-- The report program, and the program that shows what stands behind a report
pub mod Program
pub mod Detail
-- Reports stored when currencies were 1 to 8 (02, request 7)
pub mod Stored
-- no part of 01: what is known of an accepted record, and how places were told before request 2 of 02
pub mod Sound
pub mod Earlier
