-- A currency's own parts of the arrays are read as currency 1's.
use Prim.Native.Nat.{ℕ, ◌+◌, ◌*◌, ◌-◌, ◌≤◌, ◌<◌}
use mathlib.Core.List.{List, []}
use mathlib.Core.Path.{◌≡◌, refl, sym, ap, ◌∙◌}
use native.Mathlib.Omega.{arith}
use lib.IntN.{ℤ, pos}
use lib.ListN.{get_or}
use Rattle.laws.specs.Lists.{section, tabulate_from}
use Rattle.laws.proofs.Lists.{tabulate_from-ext}
use Rattle.laws.proofs.Sections.{section-place}
use Rattle.paper.specs.Ladder.{buckets}
use Rattle.paper.specs.Flow.{scenarios, shocked}
use Rattle.paper.specs.Ledger.{section_size}
use Rattle.paper.specs.Change.{net_size, tolerance}
use Rattle.arrays.specs.Rooms.{cell_by, listed, totals_by}
use Rattle.change.specs.Figures.{tolerances, own_tolerances}
use Rattle.change.proofs.Agreement.{SameRow, SameCurrency, net-same, tolerance-same}

-- a value needs no add-ons, and a size no rates either
pub no-add-ons : (ledger add_ons rates : List ℤ) (c i : ℕ) → SameRow (totals_by ledger add_ons rates) c i (totals_by ledger [] rates) c i
no-add-ons ledger add_ons rates c i = record { cells = λ k l. refl; rates = λ k l. refl }

pub net-alone : (ledger add_ons rates : List ℤ) (c i : ℕ) → net_size (totals_by ledger add_ons rates) c i ≡ net_size (totals_by ledger [] []) c i
unfolding net_size
net-alone ledger add_ons rates c i = refl

pub tolerance-alone : (ledger add_ons rates : List ℤ) (c i : ℕ) → tolerance (totals_by ledger add_ons rates) c i ≡ tolerance (totals_by ledger [] []) c i
unfolding tolerance
tolerance-alone ledger add_ons rates c i = rw (net-alone ledger add_ons rates c 0, net-alone ledger add_ons rates c i)

-- currency 1's cell, as a loop over a part reads it
pub part-cell : (part : List ℤ) (i k : ℕ) → cell_by part 1 i k ≡ get_or part (buckets * i + k) (pos 0)
unfolding cell_by
part-cell part i k =
    let place : section_size * (1 - 1) + buckets * i + k ≡ buckets * i + k = omega arith in
    ap (λ (j : ℕ). get_or part j (pos 0)) place

pub part-add_on : (part : List ℤ) (i : ℕ) → listed part 1 (i + 1) ≡ get_or part i (pos 0)
unfolding listed
part-add_on part i =
    let place : shocked * (1 - 1) + (i + 1 - 1) ≡ i = omega arith in
    ap (λ (j : ℕ). get_or part j (pos 0)) place

-- the parts of currency c + 1
module _ (ledger rates add_ons : List ℤ) (c : ℕ) where
  cell_at : (l : List ℤ) (i k : ℕ) → i < scenarios → k < buckets → cell_by l (c + 1) i k ≡ cell_by (section (section_size * c) section_size l) 1 i k
  unfolding cell_by
  cell_at l i k m n = section-place (section_size * c) section_size l _ _ (pos 0) (omega arith) (omega arith)

  add_on-at : (i : ℕ) → 1 ≤ i → i ≤ shocked → listed add_ons (c + 1) i ≡ listed (section (shocked * c) shocked add_ons) 1 i
  unfolding listed
  add_on-at i p m = section-place (shocked * c) shocked add_ons _ _ (pos 0) (omega arith) (omega arith)

  pub part_of : SameCurrency (totals_by ledger add_ons rates) (c + 1)
      (totals_by (section (section_size * c) section_size ledger) (section (shocked * c) shocked add_ons) (section (section_size * c) section_size rates)) 1
  part_of = record {
    rows = λ i l. record { cells = λ k m. cell_at ledger i k l m; rates = λ k m. cell_at rates i k l m };
    add_ons = add_on-at;
  }

  -- sizes and tolerances, by its part of the ledger alone
  abbrev cells : List ℤ
  cells = section (section_size * c) section_size ledger

  pub part-net : (i : ℕ) → i < scenarios → net_size (totals_by ledger add_ons rates) (c + 1) i ≡ net_size (totals_by cells [] []) 1 i
  part-net i l = net-same (part_of.rows i l) ∙ net-alone cells (section (shocked * c) shocked add_ons) (section (section_size * c) section_size rates) 1 i

  pub part-tolerances : own_tolerances cells ≡ tabulate_from (tolerances (totals_by ledger add_ons rates) (c + 1)) 1 shocked
  part-tolerances =
      tabulate_from-ext _ _ 1 shocked
      (λ i p l. ap pos (sym (tolerance-same part_of i p (omega arith) ∙ tolerance-alone cells (section (shocked * c) shocked add_ons) (section (section_size * c) section_size rates) 1 i)))
