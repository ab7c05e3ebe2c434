-- what a turn answers and leaves
pub mod TurnLaws
