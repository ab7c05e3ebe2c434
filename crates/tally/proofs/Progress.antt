-- The tally on its way: the places passed so far are counted, and those left are the rest of the book's.
use Prim.Native.Nat.{ℕ, zero, suc, pred, ◌+◌, ◌*◌, ◌-◌, ◌/◌, ◌%◌, ◌≤◌, ◌<◌}
use mathlib.Core.Bool.{Bool, true, false}
use mathlib.Core.List.{List, [], ◌∷◌, ◌++◌, append_assoc, append-nil}
use mathlib.Core.Logic.{⊎_elim}
use mathlib.Core.Path.{◌≡◌, refl, sym, ap, ◌∙◌}
use native.Mathlib.Numerals.{sub-one}
use native.Mathlib.Omega.{arith}
use borrow.Author.Tests.{le-leb, lt-leb}
use lib.IntN.{ℤ, pos, nat_abs}
use lib.ListN.{length, get_or, replicate, length-append}
use Rattle.std.specs.Prelude.{if◌then◌else◌}
use Rattle.laws.specs.Sums.{total}
use Rattle.laws.proofs.Tests.{lt-or-ge}
use Rattle.laws.proofs.Lists.{tabulate-length, tabulate-at, tabulate-past, tabulate-const}
use Rattle.paper.specs.Records.{currencies, kind_count}
use Rattle.paper.specs.TurnedDown.{longest_book}
use Rattle.paper.specs.Book.{next_at}
use Rattle.paper.specs.Detail.{places_from, places, is_of, among}
use Rattle.arrays.specs.Arrays.{by_currency}
use Rattle.tally.specs.Counts.{counts_of, Few}

-- the fuel is no less than the bytes left
pub record Counting (book : List ℕ) (counts : List ℤ) (count at : ℕ) : Type 0 where
  pub passed : List ℕ
  pub fuel : ℕ
  pub more : length book - at ≤ fuel
  pub rest : passed ++ places_from fuel book at ≡ places book
  pub counted : counts ≡ counts_of book passed
  pub number : count ≡ length passed
  pub few : length passed ≤ at

-- ---- the counts themselves

pub none_yet : (book : List ℕ) → replicate (kind_count * currencies) (pos 0) ≡ counts_of book []
unfolding counts_of by_currency among total
none_yet book = sym (tabulate-const (pos 0) (kind_count * currencies))

pub counts-long : (book ps : List ℕ) → length (counts_of book ps) ≡ kind_count * currencies
unfolding counts_of by_currency
counts-long book ps = tabulate-length _ (kind_count * currencies)

among-few : (book : List ℕ) (c kind : ℕ) (ps : List ℕ) → among book ps c kind ≤ length ps
unfolding among total
among-few book c kind [] = omega arith
among-few book c kind (at ∷ ps) = by (is_of book c kind at) (among-few book c kind ps)
  where
    by : (b : Bool) → among book ps c kind ≤ length ps → (if b then 1 else 0) + total (λ p. if is_of book c kind p then 1 else 0) ps ≤ suc (length ps)
    by true h = omega arith
    by false h = omega arith

pub counts-small : (book ps : List ℕ) → length ps ≤ longest_book → Few (counts_of book ps)
unfolding counts_of by_currency
counts-small book ps h j = ⊎_elim inside outside (lt-or-ge j (kind_count * currencies))
  where
    at : ℕ → ℤ
    at i = pos (among book ps (suc (i / kind_count)) (suc (i % kind_count)))

    inside : j < kind_count * currencies → nat_abs (get_or (counts_of book ps) j (pos 0)) ≤ longest_book
    inside l = rw (tabulate-at at (kind_count * currencies) j (pos 0) l) (omega (arith, among-few book (suc (j / kind_count)) (suc (j % kind_count)) ps))

    outside : kind_count * currencies ≤ j → nat_abs (get_or (counts_of book ps) j (pos 0)) ≤ longest_book
    outside l = rw (tabulate-past at (kind_count * currencies) j (pos 0) l) (omega arith)

-- ---- begun, a turn, over

module _ (book : List ℕ) (counts : List ℤ) where
  pub begun : counts ≡ replicate (kind_count * currencies) (pos 0) → Counting book counts 0 0
  unfolding places
  begun e = record { passed = []; fuel = length book; more = omega arith; rest = refl; counted = e ∙ none_yet book; number = refl; few = omega arith }

  places-over : (fuel at : ℕ) → length book ≤ at → places_from fuel book at ≡ []
  unfolding places_from
  places-over zero at l = refl
  places-over (suc fuel) at l = rw (le-leb (length book) at l)

  places-next : (fuel at : ℕ) → 0 < fuel → at < length book → places_from fuel book at ≡ at ∷ places_from (pred fuel) book (next_at book at)
  unfolding places_from
  places-next zero at f l = absurd (omega arith)
  places-next (suc fuel) at f l = rw (lt-leb (length book) at l)

  module _ (count at : ℕ) (p : Counting book counts count at) where
    pub goes_on : (counts' : List ℤ) (next : ℕ) → at < length book → next ≡ next_at book at
        → ((ps : List ℕ) → counts ≡ counts_of book ps → counts' ≡ counts_of book (ps ++ (at ∷ []))) → Counting book counts' (count + 1) next
    unfolding next_at
    goes_on counts' next l n step =
        let one = length-append p.passed (at ∷ []) in
        record {
          passed = p.passed ++ (at ∷ []);
          fuel = pred p.fuel;
          more = omega (arith, p.more, sub-one p.fuel, n);
          rest = append_assoc p.passed (at ∷ []) (places_from (pred p.fuel) book next) ∙ rw n (ap (λ (l : List ℕ). p.passed ++ l) (sym (places-next p.fuel at (omega (arith, p.more)) l))) ∙ p.rest;
          counted = step p.passed p.counted;
          number = omega (arith, p.number, one);
          few = omega (arith, p.few, one, n);
        }

    all-of-them : length book ≤ at → p.passed ≡ places book
    all-of-them l = sym (append-nil p.passed) ∙ ap (λ (l : List ℕ). p.passed ++ l) (sym (places-over p.fuel at l)) ∙ p.rest

    pub all-counted : length book ≤ at → (count ≡ length (places book)) × (counts ≡ counts_of book (places book))
    all-counted l = (p.number ∙ ap length (all-of-them l), p.counted ∙ ap (counts_of book) (all-of-them l))
