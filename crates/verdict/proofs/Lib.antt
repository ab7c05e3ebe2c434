-- lists of figures: what they and their sums come to at most
pub mod Figures
