-- totals that agree on a row or a currency have the same values, changes and tolerances there
pub mod Agreement
-- a currency's own parts of the arrays
pub mod CurrencyParts
-- what a row's weighed flows, a change and a tolerance come to at most
pub mod Bounds
