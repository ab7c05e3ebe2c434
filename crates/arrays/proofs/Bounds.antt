-- The arrays of good records hold what a step relies on, and so do the parts of a currency.
use Prim.Native.Nat.{ℕ, suc, ◌*◌, ◌-◌, ◌/◌, ◌%◌, ◌≤◌, ◌<◌}
use mathlib.Core.Bool.{false}
use mathlib.Core.List.{List}
use mathlib.Core.Logic.{⊎_elim}
use mathlib.Core.Path.{◌≡◌, sym, ap, ◌∙◌}
use native.Mathlib.Nat.{mul-le-mul_left}
use native.Mathlib.Omega.{arith}
use lib.IntN.{ℤ, pos, nat_abs}
use lib.ListN.{length, get_or, replicate}
use Rattle.laws.specs.Lists.{tabulate, section}
use Rattle.laws.proofs.Tests.{lt-or-ge}
use Rattle.laws.proofs.Sums.{sum-upto}
use Rattle.laws.proofs.Lists.{tabulate-length, tabulate-at, tabulate-past, tabulate_from-ext, tabulate_from-const}
use Rattle.laws.proofs.Sections.{section-tabulate, length-section, section-all}
use Rattle.paper.specs.Scales.{billion}
use Rattle.paper.specs.Ladder.{buckets}
use Rattle.paper.specs.Flow.{scenarios, shocked}
use Rattle.paper.specs.Records.{Record, currencies}
use Rattle.paper.specs.Ledger.{section_size, cells, totals, used, curved, ledger_of}
use Rattle.paper.proofs.Limits.{net-limited, add_on-limited}
use Rattle.paper.proofs.Rate.{rate-none}
use Rattle.paper.proofs.Walk.{Good}
use Rattle.arrays.specs.declared.masks.Masks.{Masks}
use Rattle.arrays.specs.Masks.{curved_by, MaskOf}
use Rattle.arrays.specs.Arrays.{Arrays, by_currency, arrays_of, part_of, parts_of, Sized, PartsHold, Holding}

-- a bound on each number that a rule gives is a bound on its list, and on what stands for those past its end
listed_small : {A : Type 0} (size : A → ℕ) (d : A) → size d ≤ billion → (f : ℕ → A) (n : ℕ) → ((j : ℕ) → j < n → size (f j) ≤ billion)
    → (j : ℕ) → size (get_or (tabulate f n) j d) ≤ billion
listed_small size d none f n h j =
    ⊎_elim (λ (l : j < n). rw (tabulate-at f n j d l) (h j l)) (λ (l : n ≤ j). rw (tabulate-past f n j d l) none) (lt-or-ge j n)

module _ (kept : List Record) (good : Good kept) where
  cell-small : (c i k : ℕ) → i < 7 → k < buckets → nat_abs ((totals kept).cell c i k) ≤ billion
  cell-small c i k l m =
      omega (arith, sum-upto (λ j. nat_abs ((totals kept).cell c i j)) k buckets m, net-limited good.limited c i l)

  bare-part : (c : ℕ) → 1 ≤ c → c ≤ currencies → curved kept c ≡ false
      → section (section_size * (c - 1)) section_size (ledger_of currencies (totals kept).rate) ≡ replicate section_size (pos 0)
  unfolding ledger_of
  bare-part c l h e =
      let a : ℕ = section_size * (c - 1) in
      let at : ℕ → ℤ = λ j. (totals kept).rate (suc (j / section_size)) (j % section_size / buckets) (j % buckets) in
      section-tabulate at (cells currencies) a section_size (omega arith)
      ∙ tabulate_from-ext at (λ j. pos 0) a section_size
      (λ j m n. let here : suc (j / section_size) ≡ c = omega arith in rate-none (suc (j / section_size)) (j % section_size / buckets) (j % buckets) kept (ap (curved kept) here ∙ e))
      ∙ tabulate_from-const (pos 0) a section_size

  pub arrays-sized : Sized currencies (arrays_of kept)
  unfolding arrays_of by_currency ledger_of
  arrays-sized = record {
    ledger-long = tabulate-length _ (cells currencies);
    rates-long = tabulate-length _ (cells currencies);
    add_ons-long = tabulate-length _ (shocked * currencies);
    sizes-long = tabulate-length _ (scenarios * currencies);
    option_sizes-long = tabulate-length _ (shocked * currencies);
    ledger-small = listed_small nat_abs (pos 0) (omega arith) _ (cells currencies) (λ j l. cell-small _ _ _ (omega arith) (omega arith));
    add_ons-small = listed_small nat_abs (pos 0) (omega arith) _ (shocked * currencies) (λ j l. add_on-limited good.limited _ _ (omega arith) (omega arith));
    sizes-small = listed_small (λ n. n) 0 (omega arith) _ (scenarios * currencies) (λ j l. good.limited.size _ _ (omega arith));
    option_sizes-small = listed_small (λ n. n) 0 (omega arith) _ (shocked * currencies) (λ j l. good.limited.option_size _ _ (omega arith) (omega arith));
  }

  pub holding : (m : Masks) → MaskOf m.used (used kept) → MaskOf m.curved (curved kept) → Holding m (arrays_of kept)
  unfolding arrays_of
  holding m u v = record { sized = arrays-sized; used-small = u.small; curved-small = v.small; bare = λ c l h e. bare-part c l h (sym (v.has-it c l h) ∙ e) }

-- ---- one currency's parts

part-long : {A : Type 0} (width c : ℕ) (l : List A) → 1 ≤ c → c ≤ currencies → length l ≡ width * currencies → length (part_of width c l) ≡ width * 1
part-long width c l p q e =
    let next : suc (c - 1) ≡ c = omega arith in
    length-section (width * (c - 1)) width l (omega (arith, e, ap (λ (m : ℕ). width * m) next, mul-le-mul_left width q)) ∙ omega arith

part_small : {A : Type 0} (size : A → ℕ) (d : A) → size d ≤ billion → (width c : ℕ) (l : List A) → ((j : ℕ) → size (get_or l j d) ≤ billion)
    → (j : ℕ) → size (get_or (part_of width c l) j d) ≤ billion
part_small size d none width c l h j = section-all (λ x. size x ≤ billion) d l none h (width * (c - 1)) width j

pub parts-hold : (m : Masks) (a : Arrays) (c : ℕ) → 1 ≤ c → c ≤ currencies → Holding m a → PartsHold (curved_by m.curved c) (parts_of c a)
parts-hold m a c p q h =
    let s = h.sized in
    record {
      sized = record {
        ledger-long = part-long section_size c a.ledger p q s.ledger-long;
        rates-long = part-long section_size c a.rates p q s.rates-long;
        add_ons-long = part-long shocked c a.add_ons p q s.add_ons-long;
        sizes-long = part-long scenarios c a.sizes p q s.sizes-long;
        option_sizes-long = part-long shocked c a.option_sizes p q s.option_sizes-long;
        ledger-small = part_small nat_abs (pos 0) (omega arith) section_size c a.ledger s.ledger-small;
        add_ons-small = part_small nat_abs (pos 0) (omega arith) shocked c a.add_ons s.add_ons-small;
        sizes-small = part_small (λ n. n) 0 (omega arith) scenarios c a.sizes s.sizes-small;
        option_sizes-small = part_small (λ n. n) 0 (omega arith) shocked c a.option_sizes s.option_sizes-small;
      };
      bare = h.bare c p q;
    }
