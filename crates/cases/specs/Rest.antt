-- What is left of a text that is read from its start.
use Rattle.std.specs.Prelude.{◌≡◌, ℕ, ◌-◌, ◌≤◌, List, length, drop}

-- the text ends in it
abbrev pub IsRest : List ℕ → List ℕ → Type 0
IsRest text rest = (length rest ≤ length text) × (rest ≡ drop (length text - length rest) text)
