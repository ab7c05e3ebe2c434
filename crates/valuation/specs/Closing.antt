-- The report's last four numbers: measure, worst, total tolerance, verdict.
use Rattle.std.specs.Prelude.{ℕ, List, [], ◌∷◌, ℤ, pos}
use Rattle.paper.specs.Verdict.{verdict, verdict_number}

abbrev pub closing : (measure worst tolerance tier1 : ℕ) → List ℤ
closing measure worst tolerance tier1 = pos measure ∷ pos worst ∷ pos tolerance ∷ pos (verdict_number (verdict measure tolerance tier1)) ∷ []
