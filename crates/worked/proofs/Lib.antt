-- every refusal, with its place
pub mod Outcomes
-- curves that are read
pub mod CurveBodies
-- the worked example of 01, and a book in two currencies
pub mod Example
pub mod TwoCurrencies
-- what the program prints for the example
pub mod PrintCases
