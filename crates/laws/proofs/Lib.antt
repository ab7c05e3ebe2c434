-- what tests tell; a test at each number of a run, and the first number at which one holds
pub mod Tests
-- integers by their parts above and below zero
pub mod Integers
-- the order of integers, and the rulesets with which omega reads integers
pub mod Order
-- the ring of integers
pub mod Ring
-- what the code asks of integers at a width: fits, bits, tests, bounds, magnitudes
pub mod Widths
-- sums over an index, and the greatest over one
pub mod Sums
-- the greatest of numbers, and the smallest index that reaches it, found by a scan
pub mod Scan
-- sums over a list
pub mod Totals
-- division to the nearest, and rounded up
pub mod Nearest
-- an integer within a tolerance of a rational
pub mod Ratio
-- the order of rationals
pub mod RatioOrder
-- within a tolerance of the greatest of rationals
pub mod Greatest
-- the product of two sequences
pub mod Sequences
-- sequences of divided powers, by inequalities
pub mod DividedPowers
-- the terms of the exponential's sum
pub mod Terms
-- the laws of the exponential's sum
pub mod Series
-- lists given by a rule of the index
pub mod Lists
-- sections of lists, and lists with another section in place
pub mod Sections
-- a list with a number joined to each element
pub mod Joins
-- a room that a loop fills from the front
pub mod Filling
-- the binary digits of masks
pub mod Digits
