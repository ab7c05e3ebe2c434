-- A choice by a test, and tests over a run of numbers.
use Rattle.std.specs.Prelude.{ℕ, zero, suc, Bool, true, false, ltb, leb, eqb, if◌then◌else◌}

infix 50 ◌is◌ ◌up_to◌ ◌below◌
abbrev pub ◌is◌ : ℕ → ℕ → Bool
◌is◌ = eqb

abbrev pub ◌up_to◌ : ℕ → ℕ → Bool
◌up_to◌ = leb

abbrev pub ◌below◌ : ℕ → ℕ → Bool
◌below◌ = ltb

-- the test holds at each of the n numbers from a on
unfoldable pub all : (ℕ → Bool) → ℕ → ℕ → Bool
all p a zero = true
all p a (suc n) = if p a then all p (suc a) n else false

-- the test holds at one of them at least
unfoldable pub any : (ℕ → Bool) → ℕ → ℕ → Bool
any p a zero = false
any p a (suc n) = if p a then true else any p (suc a) n

-- the first of the n numbers from a on at which the test holds; a + n where there is none
unfoldable pub first : (ℕ → Bool) → ℕ → ℕ → ℕ
first p a zero = a
first p a (suc n) = if p a then a else first p (suc a) n
