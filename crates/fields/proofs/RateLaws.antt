-- The nineteen rates of a curve: what the loop over them knows, and what its answer tells.
use Prim.Native.Nat.{ℕ, ◌+◌, ◌*◌, ◌^◌, ◌≤◌, ◌<◌}
use mathlib.Core.Bool.{false}
use mathlib.Core.List.{List, ◌++◌}
use mathlib.Core.Path.{◌≡◌, refl, sym, ap, ◌∙◌}
use native.Mathlib.Numerals.{add-one}
use native.Mathlib.Omega.{arith}
use borrow.Author.Count.{below_more}
use lib.IntN.{ℤ, pos, negsuc}
use lib.Signed.{mag}
use mir.Syntax.{w64}
use mir.Val.{hbits, to_z, of_z}
use Rattle.laws.proofs.Widths.{back}
use borrow.Author.Tests.{ltb-false}
use lib.ListN.{length, get_or, take, drop, set, length-append, length-take, length-drop}
use Rattle.laws.proofs.Tests.{first-is, none_first}
use Rattle.laws.proofs.Lists.{tabulate-length, tabulate-at}
use Rattle.laws.proofs.Filling.{fill_more, fill-all}
use Rattle.paper.specs.declared.Fault.{Fault}
use Rattle.paper.specs.declared.Refusal.TheVariants.{OutOfRange}
use Rattle.paper.specs.Ladder.{buckets}
use Rattle.std.specs.Prelude.{Result, Ok, Err}
use Rattle.paper.specs.Refusals.{accepted, refused, result_of}
use Rattle.paper.specs.TurnedDown.{bad_rate}
use Rattle.paper.specs.Fields.{four, signed, rate_at, each}
use Rattle.paper.specs.Sound.{Listed, Ranged}
use Rattle.paper.proofs.Checks.{known_of}
use Rattle.paper.proofs.Ranges.{rates-known}
use Rattle.fields.specs.Answers.{rate_of, rates_from, good_rates, rates_set, no_value}
use Rattle.fields.proofs.FieldLaws.{or_nothing, field-accepts, field-refuses, each-good, each-bad, each-accepts}
use Rattle.fields.proofs.Reading.{some-value}

-- a rate is far within 64 bits
rate-fits : (z : ℤ) → bad_rate z ≡ false → mag z < 2 ^ hbits w64
unfolding bad_rate
rate-fits (pos n) e = omega (arith, ltb-false 300000 n e)
rate-fits (negsuc n) e = omega (arith, ltb-false 49999 n (sym (or_nothing _) ∙ e))

module _ (body : List ℕ) (o : ℕ) where
  rates-length : length (rates_from body o) ≡ buckets
  rates-length = tabulate-length (rate_of body o) buckets

  -- before bucket k + 1, in a room that was lent as `room`
  pub record Filled (room : List ℤ) (k : ℕ) (rates : List ℤ) : Type 0 where
    pub good : (j : ℕ) → j < k → bad_rate (rate_of body o j) ≡ false
    pub holds : rates ≡ take k (rates_from body o) ++ drop k room

  pub filled_none : (room : List ℤ) → Filled room 0 room
  filled_none room = record { good = λ j l. absurd (omega arith); holds = refl }

  pub filled-length : {room : List ℤ} {k : ℕ} {rates : List ℤ} → k ≤ buckets → length room ≡ buckets → Filled room k rates → length rates ≡ buckets
  filled-length {room} {k} l e h =
      ap length h.holds ∙ simp (length-append, length-take, length-drop) (omega (arith, e, rates-length))

  -- one more rate, that was read
  pub filled_more : (room : List ℤ) (k : ℕ) (rates : List ℤ) (x : ℤ) → k < buckets → length room ≡ buckets → Filled room k rates
      → rate_at body (o + 4 * k) ≡ accepted x → Filled room (k + 1) (set rates k (to_z w64 (of_z w64 x)))
  filled_more room k rates x l e h a =
      let t = field-accepts bad_rate OutOfRange (o + 4 * k) (rate_of body o k) x a in
      record {
        good = below_more _ _ h.good t.1;
        holds =
            ap (λ (z : ℤ). set rates k z) (back w64 x (rate-fits x (rw t.0 at t.1)) ∙ sym t.0 ∙ sym (tabulate-at (rate_of body o) buckets k (pos 0) l))
            ∙ ap (λ (r : List ℤ). set r k (get_or (rates_from body o) k (pos 0))) h.holds
            ∙ fill_more (rates_from body o) room k (pos 0) (omega (arith, rates-length)) (omega arith)
            ∙ sym (rw (add-one k));
      }

  -- the loop left at bucket k + 1, or after the last
  abbrev Ended : List ℤ → List ℤ → Result (Unit {0}) Fault → Type 0
  Ended room rates r =
      (r ≡ result_of no_value (each (rate_at body) buckets o)) × (rates ≡ rates_set body o room)

  pub filled-stops : {room : List ℤ} {k : ℕ} {rates : List ℤ} {f : Fault} → k < buckets → Filled room k rates
      → rate_at body (o + 4 * k) ≡ refused f.cause f.place → Ended room rates (Err f)
  unfolding good_rates
  filled-stops {k = k} l h e =
      let t = field-refuses bad_rate OutOfRange (o + 4 * k) (rate_of body o k) _ _ e in
      let stop : good_rates body o ≡ k = first-is _ 0 buckets k (omega arith) (omega arith) t (λ j m n. h.good j n) in
      (sym (ap (result_of no_value) (each-bad bad_rate OutOfRange (λ at. signed (four body at)) o buckets k l e h.good)), h.holds ∙ rw stop)

  pub filled-ends : {room rates : List ℤ} → Filled room buckets rates → Ended room rates (Ok tt)
  unfolding good_rates
  filled-ends {room} {rates} h =
      let stop : good_rates body o ≡ buckets = none_first _ 0 buckets (λ j m n. h.good j n) in
      (sym (ap (result_of no_value) (each-good bad_rate OutOfRange (λ at. signed (four body at)) o buckets h.good)), h.holds ∙ rw stop)

  -- what an answer tells of the rates, and of the room
  pub record Rated (rates : List ℤ) : Type 0 where
    pub list : each (rate_at body) buckets o ≡ accepted (rates_from body o)
    pub holds : rates ≡ rates_from body o
    pub ranged : Listed Ranged buckets rates

  pub rates-all : (room : List ℤ) {rates : List ℤ} → length room ≡ buckets → Ended room rates (Ok tt) → Rated rates
  unfolding good_rates
  rates-all room {rates} long (p, h) =
      let t = some-value no_value (each (rate_at body) buckets o) p in
      let u = each-accepts bad_rate OutOfRange (λ at. signed (four body at)) o buckets t.0 t.1 in
      let stop : good_rates body o ≡ buckets = none_first _ 0 buckets (λ j m n. u.1 j n) in
      let list : each (rate_at body) buckets o ≡ accepted (rates_from body o) = t.1 ∙ ap accepted u.0 in
      let whole : rates ≡ rates_from body o = h ∙ rw stop (fill-all (rates_from body o) room rates-length long) in
      record { list = list; holds = whole; ranged = rw whole (known_of (rates-known {bytes = o + 4 * buckets} body o (omega arith)) (rates_from body o) list) }
