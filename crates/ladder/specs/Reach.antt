-- What an exponent is made of, and how far it reaches.
use Rattle.std.specs.Prelude.{ℕ, ◌≡◌, ℤ, pos}
use Rattle.paper.specs.Ladder.{midpoint}
use Rattle.paper.specs.Change.{exponent}
use Rattle.paper.specs.Factor.{InRange}

-- the midpoint of some bucket; past the last it reads as 0
abbrev pub OnLadder : ℤ → Type 0
OnLadder years = (k : ℕ) × (years ≡ pos (midpoint k))

-- X is the exponent of the rate in each bucket that has this midpoint
pub record IsExponent (rate years X : ℤ) : Type 0 where
  pub is : (k : ℕ) → years ≡ pos (midpoint k) → X ≡ exponent rate k
  pub reach : InRange X
