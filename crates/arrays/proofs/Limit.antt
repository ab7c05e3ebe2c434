-- 14 by a currency's own parts: a record with flows is tested by its sizes, an option by its option sizes, a curve passes.
use Prim.Native.Nat.{ℕ, zero, suc, ◌+◌, ◌-◌, ◌≤◌}
use mathlib.Core.Bool.{Bool, true, false, not, ◌&&◌, ◌||◌}
use mathlib.Core.List.{List}
use mathlib.Core.Path.{◌≡◌, refl, ap, ap₂, ◌∙◌}
use native.Mathlib.Nat.{add-zero}
use native.Mathlib.Omega.{arith}
use borrow.Author.Tests.{le-ltb}
use lib.IntN.{pos, nat_abs}
use lib.ListN.{get_or}
use Rattle.std.specs.Prelude.{if◌then◌else◌}
use Rattle.laws.specs.Tests.{◌below◌, all}
use Rattle.laws.proofs.Tests.{all_of, all-ext, any-is}
use Rattle.laws.proofs.Sums.{sum-none}
use Rattle.paper.specs.Scales.{billion}
use Rattle.paper.specs.Ladder.{buckets}
use Rattle.paper.specs.Flow.{scenarios, shocked, flow, adds, magnitude}
use Rattle.paper.specs.Records.{Record}
use Rattle.paper.specs.Ledger.{SoFar}
use Rattle.paper.specs.TurnedDown.{flows_over, options_over, over_limit}
use Rattle.paper.proofs.KindLaws.{FlowsOnly, AddOnOnly, CurveOnly}
use Rattle.arrays.specs.Rooms.{so_far_in}
use Rattle.arrays.specs.Slots.{room_for, option_magnitude}

-- scenarios 1 to 6 as places 0 to 5
all-shift : (p : ℕ → Bool) (a n : ℕ) → all p (suc a) n ≡ all (λ j. p (suc j)) a n
unfolding all
all-shift p a zero = refl
all-shift p a (suc n) = ap (λ (b : Bool). if p (suc a) then b else false) (all-shift p (suc a) n)

pub no-magnitude : (r : Record) → ((i k : ℕ) → flow r i k ≡ pos 0) → (i : ℕ) → magnitude r i ≡ 0
unfolding magnitude
no-magnitude r nil i = sum-none (λ k. nat_abs (flow r i k)) buckets (λ k _. ap nat_abs (nil i k))

-- nothing more leaves the sums under their limit
room-none : (more : ℕ → ℕ) (sums : List ℕ) (n : ℕ) → ((j : ℕ) → more j ≡ 0) → ((j : ℕ) → get_or sums j 0 ≤ billion) → room_for more sums n ≡ true
unfolding room_for
room-none more sums n nil small = all_of _ 0 n (λ j _ l. rw (nil j, add-zero, le-ltb billion (get_or sums j 0) (small j)))

not-both : (a b : Bool) → not a || not b ≡ not (a && b)
not-both true b = refl
not-both false b = refl

and_right : (b : Bool) → b && true ≡ b
and_right true = refl
and_right false = refl

module _ (has : Bool) (sizes option_sizes : List ℕ) (r : Record)
    (sizes-small : (j : ℕ) → get_or sizes j 0 ≤ billion) (options-small : (j : ℕ) → get_or option_sizes j 0 ≤ billion) where
  -- the two halves of 14
  halves : over_limit (so_far_in has sizes option_sizes) r ≡ not (room_for (magnitude r) sizes scenarios && room_for (option_magnitude r) option_sizes shocked)
  unfolding over_limit room_for flows_over options_over
  halves =
      let before : SoFar = so_far_in has sizes option_sizes in
      let flows_fit : ℕ → Bool = λ i. not (flows_over before r i) in
      let options_fit : ℕ → Bool = λ i. not (options_over before r i) in
      ap₂ ◌||◌ (any-is (flows_over before r) 0 7) (any-is (options_over before r) 1 6)
      ∙ not-both (all flows_fit 0 7) (all options_fit 1 6)
      ∙ ap (λ (b : Bool). not (all flows_fit 0 7 && b))
      (all-shift options_fit 0 6 ∙ all-ext _ _ 0 6 (λ j _ l. let digit : suc j - 1 ≡ j = omega arith in ap (λ (i : ℕ). not (billion below get_or option_sizes i 0 + nat_abs (adds r (suc j)))) digit))

  pub flows-limit : FlowsOnly r → over_limit (so_far_in has sizes option_sizes) r ≡ not (room_for (magnitude r) sizes scenarios)
  flows-limit only =
      halves ∙ ap not (ap (λ (b : Bool). room_for (magnitude r) sizes scenarios && b) (room-none (option_magnitude r) option_sizes shocked (λ j. ap nat_abs (only.no-add-on (suc j))) options-small)
      ∙ and_right (room_for (magnitude r) sizes scenarios))

  pub options-limit : AddOnOnly r → over_limit (so_far_in has sizes option_sizes) r ≡ not (room_for (option_magnitude r) option_sizes shocked)
  options-limit only =
      halves ∙ ap (λ (b : Bool). not (b && room_for (option_magnitude r) option_sizes shocked)) (room-none (magnitude r) sizes scenarios (no-magnitude r only.no_flow) sizes-small)

  pub curve-limit : CurveOnly r → over_limit (so_far_in has sizes option_sizes) r ≡ false
  curve-limit only =
      halves ∙ ap₂ (λ (a b : Bool). not (a && b)) (room-none (magnitude r) sizes scenarios (no-magnitude r only.no_flow) sizes-small)
      (room-none (option_magnitude r) option_sizes shocked (λ j. ap nat_abs (only.no-add-on (suc j))) options-small)
