-- The numbers of a currency's lines stand side by side in its parts of the arrays.
use Prim.Native.Nat.{ℕ, ◌+◌, ◌*◌, ◌-◌, ◌≤◌, ◌<◌}
use mathlib.Core.List.{List, []}
use mathlib.Core.Path.{◌≡◌, ap}
use native.Mathlib.Omega.{arith}
use lib.IntN.{ℤ, pos}
use lib.ListN.{length}
use Rattle.laws.specs.Lists.{tabulate, tabulate_from, section}
use Rattle.laws.proofs.Lists.{tabulate-is, tabulate_from-ext}
use Rattle.laws.proofs.Sections.{length-section, section-at}
use Rattle.paper.specs.Ladder.{buckets}
use Rattle.paper.specs.Records.{kind_count}
use Rattle.paper.specs.Flow.{scenarios, shocked}
use Rattle.paper.specs.Ledger.{section_size}
use Rattle.paper.specs.Change.{net_size}
use Rattle.paper.specs.Detail.{tolerances_line}
use Rattle.arrays.specs.Rooms.{cell_by, listed, totals_by}
use Rattle.change.specs.Figures.{tolerances, own_tolerances}
use Rattle.change.proofs.CurrencyParts.{tolerance-alone, part-net, part-tolerances}
use Rattle.text.proofs.Figures.{side_by_side}
use Rattle.detail.specs.Behind.{count_by}

-- rates or flows of a scenario
pub row_of : (l : List ℤ) (c i : ℕ) → section_size * (c - 1) + buckets * i + buckets ≤ length l
    → section (section_size * (c - 1) + buckets * i) buckets l ≡ tabulate (cell_by l c i) buckets
unfolding cell_by
row_of l c i h =
    let a = section_size * (c - 1) + buckets * i in
    tabulate-is (pos 0) (section a buckets l) (cell_by l c i) buckets (length-section a buckets l h) (λ k o. section-at a buckets l k (pos 0) o)

pub add_ons-of : (l : List ℤ) (c : ℕ) → shocked * (c - 1) + shocked ≤ length l → section (shocked * (c - 1)) shocked l ≡ tabulate_from (listed l c) 1 shocked
unfolding listed
add_ons-of l c h = side_by_side l (shocked * (c - 1)) shocked h

pub counts_of-section : (l : List ℤ) (c : ℕ) → kind_count * (c - 1) + kind_count ≤ length l → section (kind_count * (c - 1)) kind_count l ≡ tabulate_from (count_by l c) 1 kind_count
unfolding count_by
counts_of-section l c h = side_by_side l (kind_count * (c - 1)) kind_count h

-- the sizes and the tolerances are worked out of a currency's part of the ledger
pub net-of : (ledger : List ℤ) (c i : ℕ) → 1 ≤ c → i < scenarios → net_size (totals_by ledger [] []) c i ≡ net_size (totals_by (section (section_size * (c - 1)) section_size ledger) [] []) 1 i
net-of ledger c i h l = let next : c - 1 + 1 ≡ c = omega arith in rw next at (part-net ledger [] [] (c - 1) i l)

pub tolerances-of : (ledger : List ℤ) (c : ℕ) → 1 ≤ c → own_tolerances (section (section_size * (c - 1)) section_size ledger) ≡ tabulate_from (tolerances (totals_by ledger [] []) c) 1 shocked
tolerances-of ledger c h = let next : c - 1 + 1 ≡ c = omega arith in rw next at (part-tolerances ledger [] [] (c - 1))

-- and of nothing else
pub tolerances-alone : (ledger add_ons rates : List ℤ) (c : ℕ) → tolerances_line (totals_by ledger [] []) c ≡ tolerances_line (totals_by ledger add_ons rates) c
tolerances-alone ledger add_ons rates c =
    let same = tabulate_from-ext (tolerances (totals_by ledger add_ons rates) c) (tolerances (totals_by ledger [] []) c) 1 shocked (λ i p l. ap pos (tolerance-alone ledger add_ons rates c i)) in
    rw same
