-- the numbers to hold to, and worked cases, by computation
pub mod Cases
pub mod Rules
pub mod Bytes
pub mod DecodeCases
-- ladder, behaviour, spread, magnitudes, and what refusal 14 leaves
pub mod Buckets
pub mod Midpoints
pub mod Widths
pub mod Loan
pub mod Deposits
pub mod Spread
pub mod Magnitudes
pub mod Limits
-- what is known of accepted fields, records and books
pub mod Numbers
pub mod Checks
pub mod Ranges
pub mod Published
pub mod KindLaws
pub mod KindTable
pub mod Rate
pub mod Walk
pub mod Earlier
pub mod OneCurve
pub mod ListedCurve
-- demand 3: the series, the factor, a change, the measure, the verdict, each against the exact one
pub mod Terms
pub mod SeriesLaws
pub mod FactorStep
pub mod FactorClose
pub mod ChangeClose
pub mod MeasureClose
pub mod VerdictSound
-- the report's list against the definitions by currency and scenario
pub mod ReportList
pub mod Report
pub mod EmptyCurrency
-- a book over another number of currencies, and its stored report widened (02, request 7)
pub mod OtherTop
pub mod WiderReport
-- what stands behind a report
pub mod Detail
-- demand 3 for every accepted book
pub mod Demand3
-- the digits in parts; the table's entries, written out and by rule, by which a report is cheap to compute
pub mod FactorDigits
pub mod FactorTable
