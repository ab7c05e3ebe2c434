-- Totals and counts that agree on a currency have the same lines of it.
use Prim.Native.Nat.{ℕ, zero, suc, ◌≤◌}
use mathlib.Core.Path.{◌≡◌, refl, ap}
use native.Mathlib.Omega.{arith}
use lib.IntN.{ℤ, pos}
use Rattle.laws.proofs.Lists.{tabulate-ext, tabulate_from-ext}
use Rattle.paper.specs.Ladder.{buckets}
use Rattle.paper.specs.Records.{kind_count}
use Rattle.paper.specs.Flow.{scenarios, shocked}
use Rattle.paper.specs.Ledger.{Totals}
use Rattle.paper.specs.Change.{tolerance}
use Rattle.paper.specs.Detail.{scenario_lines, currency_text}
use Rattle.change.proofs.Agreement.{SameCurrency, tolerance-same}

module _ {t u : Totals} {c : ℕ} (s : SameCurrency t c u c) where
  scenarios-same : (n : ℕ) → n ≤ scenarios → scenario_lines t.rate t.cell c n ≡ scenario_lines u.rate u.cell c n
  unfolding scenario_lines
  scenarios-same zero h = refl
  scenarios-same (suc n) h =
      let rates = tabulate-ext (t.rate c n) (u.rate c n) buckets (s.rows n h).rates in
      let flows = tabulate-ext (t.cell c n) (u.cell c n) buckets (s.rows n h).cells in
      rw (scenarios-same n (omega arith), rates, flows)

  pub text_same : (f g : ℕ → ℕ → ℤ) → ((kind : ℕ) → 1 ≤ kind → kind ≤ kind_count → f c kind ≡ g c kind) → currency_text t f c ≡ currency_text u g c
  unfolding currency_text
  text_same f g e =
      let tolerances = tabulate_from-ext (λ i. pos (tolerance t c i)) (λ i. pos (tolerance u c i)) 1 shocked (λ i p l. ap pos (tolerance-same s i p (omega arith))) in
      let add_ons = tabulate_from-ext (t.add_on c) (u.add_on c) 1 shocked (λ i p l. s.add_ons i p (omega arith)) in
      let counts = tabulate_from-ext (f c) (g c) 1 kind_count (λ kind l h. e kind l (omega arith)) in
      rw (tolerances, scenarios-same scenarios (omega arith), add_ons, counts)
