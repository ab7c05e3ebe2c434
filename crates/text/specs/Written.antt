-- A text written into a buffer: its bytes stand from a place on, and the rest of the buffer is as it was.
use Rattle.std.specs.Prelude.{ℕ, ◌+◌, List, ◌≡◌, length}
use Rattle.laws.specs.Lists.{splice}

unfoldable pub written : ℕ → List ℕ → List ℕ → List ℕ
written at text buffer = splice at (length text) buffer text

-- what a writer does with the buffer, and the place that it answers: the one after its text
pub record Wrote (text : List ℕ) (at : ℕ) (before : List ℕ) (next : ℕ) (after : List ℕ) : Type 0 where
  pub next-is : next ≡ at + length text
  pub after_is : after ≡ written at text before
