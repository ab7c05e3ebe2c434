-- The arrays of the records kept: with nothing kept, with one record more, and read back.
use Prim.Native.Nat.{ℕ, suc, ◌+◌, ◌*◌, ◌-◌, ◌/◌, ◌%◌, ◌≤◌, ◌<◌}
use mathlib.Core.Bool.{true, false}
use mathlib.Core.List.{List, [], ◌∷◌, ◌++◌}
use mathlib.Core.Path.{◌≡◌, sym, ap, ◌∙◌}
use native.Mathlib.Nat.{add-zero, div-eq_of_lt, mul-add-div, mul-le-mul_left}
use native.Mathlib.Omega.{arith}
use lib.IntN.{ℤ, pos, nat_abs, ◌+ℤ◌, +ℤ_idr}
use lib.ListN.{get_or, replicate}
use Rattle.std.specs.Prelude.{if◌then◌else◌}
use Rattle.laws.specs.Tests.{◌is◌}
use Rattle.laws.specs.Sums.{total, total_ℤ}
use Rattle.laws.proofs.Lists.{tabulate-at, tabulate-ext, tabulate-const}
use Rattle.paper.specs.Ladder.{buckets}
use Rattle.paper.specs.Records.{Record, currencies, currency_of, is_curve}
use Rattle.paper.specs.Flow.{scenarios, shocked, flow, adds, gives, magnitude}
use Rattle.paper.specs.Ledger.{section_size, cells, of_currency, of_currency_ℤ, rate_of, totals, so_far, curved, ledger_of}
use Rattle.paper.proofs.Limits.{of_currency-more, of_currency_ℤ-more}
use Rattle.paper.proofs.Rate.{rate-added}
use Rattle.arrays.specs.Rooms.{cell_by, listed, size_by, option_size_by}
use Rattle.arrays.specs.Slots.{plus_ℤ, with_flows, with_rates, with_sizes, with_add_ons, with_option_sizes}
use Rattle.arrays.specs.Arrays.{Arrays, by_currency, arrays_of, in_parts, with_record}
use Rattle.arrays.proofs.Parts.{joined_part, start_is, part-more}

-- the ledger's rule, part by part
pub ledger-by : (cell : ℕ → ℕ → ℕ → ℤ) → ledger_of currencies cell ≡ by_currency section_size (λ c j. cell c (j / buckets) (j % buckets))
unfolding ledger_of by_currency
ledger-by cell =
    tabulate-ext _ _ (cells currencies)
    (λ j l. let same : j % buckets ≡ j % section_size % buckets = omega arith in ap (cell (suc (j / section_size)) (j % section_size / buckets)) same)

-- ---- nothing kept

pub nothing-kept : arrays_of [] ≡ record {
  ledger = replicate (cells currencies) (pos 0);
  rates = replicate (cells currencies) (pos 0);
  add_ons = replicate (shocked * currencies) (pos 0);
  sizes = replicate (scenarios * currencies) 0;
  option_sizes = replicate (shocked * currencies) 0;
}
unfolding arrays_of ledger_of by_currency rate_of of_currency of_currency_ℤ total total_ℤ
nothing-kept =
    simp (tabulate-const (pos 0) (shocked * currencies), tabulate-const (pos 0) (cells currencies), tabulate-const {A = ℕ} 0 (shocked * currencies), tabulate-const {A = ℕ} 0 (scenarios * currencies))

-- ---- one record more

pub same-arrays : {l r a l' r' a' : List ℤ} {s o s' o' : List ℕ} → l ≡ l' → r ≡ r' → a ≡ a' → s ≡ s' → o ≡ o'
    → ◌≡◌ {A = Arrays} (record { ledger = l; rates = r; add_ons = a; sizes = s; option_sizes = o })
    (record { ledger = l'; rates = r'; add_ons = a'; sizes = s'; option_sizes = o' })
same-arrays e f g h i = cc

module _ (kept : List Record) (r : Record) (l : 1 ≤ currency_of r) (h : currency_of r ≤ currencies) where
  -- by the ledger's rule
  cells-more : (f : ℕ → ℕ → ℤ) (before after : ℕ → ℕ → ℕ → ℤ) → ((c i k : ℕ) → after c i k ≡ before c i k +ℤ (if currency_of r is c then f i k else pos 0))
      → ledger_of currencies after ≡ joined_part (λ part. plus_ℤ part (λ j. f (j / buckets) (j % buckets))) section_size (currency_of r) (ledger_of currencies before)
  cells-more f before after more =
      ledger-by after
      ∙ part-more ◌+ℤ◌ (pos 0) +ℤ_idr section_size (currency_of r) _ _ (λ j. f (j / buckets) (j % buckets)) (omega arith) l h (λ b j _. more b (j / buckets) (j % buckets))
      ∙ ap (joined_part (λ part. plus_ℤ part (λ j. f (j / buckets) (j % buckets))) section_size (currency_of r)) (sym (ledger-by before))

  -- a curve finds none of its currency before it
  pub arrays-more : (is_curve r ≡ true → curved kept (currency_of r) ≡ false) → arrays_of (kept ++ (r ∷ [])) ≡ with_record r (arrays_of kept)
  unfolding arrays_of with_record in_parts with_flows with_rates with_add_ons with_sizes with_option_sizes
  arrays-more fresh =
      same-arrays (cells-more (flow r) _ _ (λ c i k. of_currency_ℤ-more c kept r (λ x. flow x i k))) (cells-more (gives r) _ _ (λ c i k. rate-added c i k kept r fresh))
      (part-more ◌+ℤ◌ (pos 0) +ℤ_idr 6 (currency_of r) _ _ (λ j. adds r (suc j)) (omega arith) l h (λ b j _. of_currency_ℤ-more b kept r (λ x. adds x (suc j))))
      (part-more ◌+◌ 0 add-zero scenarios (currency_of r) _ _ (magnitude r) (omega arith) l h (λ b j _. of_currency-more b kept r (λ x. magnitude x j)))
      (part-more ◌+◌ 0 add-zero 6 (currency_of r) _ _ (λ j. nat_abs (adds r (suc j))) (omega arith) l h (λ b j _. of_currency-more b kept r (λ x. nat_abs (adds x (suc j)))))

-- ---- read back

module _ {A : Type 0} (d : A) where
  pub by-at : (width : ℕ) (f : ℕ → ℕ → A) (c j : ℕ) → 0 < width → 1 ≤ c → c ≤ currencies → j < width
      → get_or (by_currency width f) (width * (c - 1) + j) d ≡ f c j
  unfolding by_currency
  by-at width f c j w l h o =
      let next : suc (c - 1) ≡ c = omega arith in
      let n : ℕ = width * (c - 1) + j in
      let inside : n < width * currencies = omega (arith, ap (λ (m : ℕ). width * m) next, mul-le-mul_left width h) in
      let none : j / width ≡ 0 = div-eq_of_lt o in
      let quotient : n / width ≡ c - 1 + 0 = mul-add-div w (c - 1) j ∙ ap (λ (m : ℕ). c - 1 + m) none in
      let part : suc (n / width) ≡ c = omega arith in
      let rest : n % width ≡ j = omega (arith, start_is width c n (sym part)) in
      tabulate-at (λ i. f (suc (i / width)) (i % width)) (width * currencies) n d inside ∙ rw (part, rest)

pub cell-is : (cell : ℕ → ℕ → ℕ → ℤ) (c i k : ℕ) → 1 ≤ c → c ≤ currencies → i < scenarios → k < buckets → cell_by (ledger_of currencies cell) c i k ≡ cell c i k
unfolding cell_by
cell-is cell c i k l h m n =
    let j : ℕ = buckets * i + k in
    let scenario : j / buckets ≡ i = omega arith in
    let bucket : j % buckets ≡ k = omega arith in
    let place : section_size * (c - 1) + buckets * i + k ≡ section_size * (c - 1) + j = omega arith in
    rw (place, ledger-by cell) (by-at (pos 0) section_size (λ d o. cell d (o / buckets) (o % buckets)) c j (omega arith) l h (omega arith) ∙ rw (scenario, bucket))

module _ (kept : List Record) (c i : ℕ) (l : 1 ≤ c) (h : c ≤ currencies) where
  pub size_is : i < scenarios → size_by (arrays_of kept).sizes c i ≡ (so_far kept).size c i
  unfolding size_by arrays_of
  size_is m = by-at 0 scenarios (so_far kept).size c i (omega arith) l h m

  pub add_on-is : 1 ≤ i → i ≤ 6 → listed (arrays_of kept).add_ons c i ≡ (totals kept).add_on c i
  unfolding listed arrays_of
  add_on-is p m =
      let same : suc (i - 1) ≡ i = omega arith in
      by-at (pos 0) 6 (λ d j. (totals kept).add_on d (suc j)) c (i - 1) (omega arith) l h (omega arith) ∙ ap ((totals kept).add_on c) same

  pub option_size-is : 1 ≤ i → i ≤ 6 → option_size_by (arrays_of kept).option_sizes c i ≡ (so_far kept).option_size c i
  unfolding option_size_by arrays_of
  option_size-is p m =
      let same : suc (i - 1) ≡ i = omega arith in
      by-at 0 6 (λ d j. (so_far kept).option_size d (suc j)) c (i - 1) (omega arith) l h (omega arith) ∙ ap ((so_far kept).option_size c) same
