-- What the function of a kind took is what the paper admits: the parts that its records do not touch stay as they are.
use Prim.Native.Nat.{ℕ, suc, ◌+◌, ◌/◌, ◌%◌}
use mathlib.Core.Bool.{Bool, false}
use mathlib.Core.List.{List}
use mathlib.Core.Path.{◌≡◌, refl, sym, ap, ◌∙◌}
use native.Mathlib.Nat.{add-zero}
use lib.IntN.{ℤ, pos, nat_abs, ◌+ℤ◌, +ℤ_idr}
use Rattle.std.specs.Prelude.{Err}
use Rattle.laws.proofs.Joins.{joined-none}
use Rattle.paper.specs.declared.Refusal.TheVariants.{UnknownKind, OverLimit}
use Rattle.paper.specs.Ladder.{buckets}
use Rattle.paper.specs.Flow.{flow, adds, gives, magnitude}
use Rattle.paper.specs.Refusals.{Checked, accepted, refused, ◌>>=◌, unless, fault}
use Rattle.paper.specs.Records.{Record, body_length, currencies}
use Rattle.paper.specs.Ledger.{SoFar}
use Rattle.paper.specs.TurnedDown.{over_limit}
use Rattle.paper.specs.Decode.{decode}
use Rattle.paper.specs.Book.{admitted}
use Rattle.paper.proofs.Checks.{Known, known_of, chain, unless-known}
use Rattle.paper.proofs.KindLaws.{FlowsOnly, AddOnOnly, CurveOnly}
use Rattle.arrays.specs.Rooms.{so_far_in}
use Rattle.arrays.specs.Slots.{with_flows, with_rates, with_sizes, with_add_ons, with_option_sizes, option_magnitude}
use Rattle.arrays.specs.Arrays.{Arrays, in_parts, arrays_as, PartsHold}
use Rattle.arrays.proofs.Agree.{bind-ext}
use Rattle.arrays.proofs.More.{same-arrays}
use Rattle.arrays.proofs.Limit.{no-magnitude, flows-limit, options-limit, curve-limit}
use Rattle.record.specs.Answers.{IsBody}
use Rattle.posting.specs.Parts.{Taken, FlowParts}
use Rattle.slotting.specs.Parts.{OptionParts, RateParts}
use Rattle.posting.specs.Answers.{into, flows_fit, FlowsTaken, options_fit, OptionTaken, CurveTaken}
use Rattle.kinds.specs.Bodies.{BodyTaken}
use Rattle.paper.proofs.KindTable.{Row, NoneOf, none-decoded}

-- ---- a part with nothing joined stays

module _ (r : Record) where
  same-ledger : ((i k : ℕ) → flow r i k ≡ pos 0) → (l : List ℤ) → l ≡ with_flows r l
  unfolding with_flows
  same-ledger nil l = sym (joined-none ◌+ℤ◌ (pos 0) +ℤ_idr l (λ j. flow r (j / buckets) (j % buckets)) (λ j _. nil (j / buckets) (j % buckets)))

  same-rates : ((i k : ℕ) → gives r i k ≡ pos 0) → (l : List ℤ) → l ≡ with_rates r l
  unfolding with_rates
  same-rates nil l = sym (joined-none ◌+ℤ◌ (pos 0) +ℤ_idr l (λ j. gives r (j / buckets) (j % buckets)) (λ j _. nil (j / buckets) (j % buckets)))

  same-sizes : ((i k : ℕ) → flow r i k ≡ pos 0) → (l : List ℕ) → l ≡ with_sizes r l
  unfolding with_sizes
  same-sizes nil l = sym (joined-none ◌+◌ 0 add-zero l (magnitude r) (λ j _. no-magnitude r nil j))

  same-add_ons : ((i : ℕ) → adds r i ≡ pos 0) → (l : List ℤ) → l ≡ with_add_ons r l
  unfolding with_add_ons
  same-add_ons nil l = sym (joined-none ◌+ℤ◌ (pos 0) +ℤ_idr l (λ j. adds r (suc j)) (λ j _. nil (suc j)))

  same-option_sizes : ((i : ℕ) → adds r i ≡ pos 0) → (l : List ℕ) → l ≡ with_option_sizes r l
  unfolding with_option_sizes
  same-option_sizes nil l = sym (joined-none ◌+◌ 0 add-zero l (option_magnitude r) (λ j _. ap nat_abs (nil (suc j))))

-- ---- what a record that was let in leaves, by what it has

module _ (p : Arrays) where
  flows-enter : (x : Checked Record) → Known FlowsOnly x
      → arrays_as (into with_flows x p.ledger) p.rates p.add_ons (into with_sizes x p.sizes) p.option_sizes ≡ into in_parts x p
  unfolding in_parts
  flows-enter (refused q place) k = refl
  flows-enter (accepted r) k =
      let only = known_of k r refl in
      same-arrays refl (same-rates r only.no-rate p.rates) (same-add_ons r only.no-add-on p.add_ons) refl (same-option_sizes r only.no-add-on p.option_sizes)

  option-enter : (x : Checked Record) → Known AddOnOnly x
      → arrays_as p.ledger p.rates (into with_add_ons x p.add_ons) p.sizes (into with_option_sizes x p.option_sizes) ≡ into in_parts x p
  unfolding in_parts
  option-enter (refused q place) k = refl
  option-enter (accepted r) k =
      let only = known_of k r refl in
      same-arrays (same-ledger r only.no_flow p.ledger) (same-rates r only.no-rate p.rates) refl (same-sizes r only.no_flow p.sizes) refl

  curve-enter : (x : Checked Record) → Known CurveOnly x
      → arrays_as p.ledger (into with_rates x p.rates) p.add_ons p.sizes p.option_sizes ≡ into in_parts x p
  unfolding in_parts
  curve-enter (refused q place) k = refl
  curve-enter (accepted r) k =
      let only = known_of k r refl in
      same-arrays (same-ledger r only.no_flow p.ledger) refl (same-add_ons r only.no-add-on p.add_ons) (same-sizes r only.no_flow p.sizes)
      (same-option_sizes r only.no-add-on p.option_sizes)

-- 14 keeps what is known
fit-known : {P : Record → Type 0} (over : Record → Bool) {x : Checked Record} → Known P x → Known P (x >>= (λ r. unless (over r) OverLimit 0 r))
fit-known over h = chain h (λ r p. unless-known (over r) OverLimit 0 r tt (λ _. p))

-- ---- a body of a kind

-- a body of the kind's length is one of the row's
pub row-body : {code kind bytes c : ℕ} {curved : ℕ → Bool} {decode_it : List ℕ → Checked Record} {body : List ℕ} → Row currencies kind bytes curved decode_it → code ≡ kind
    → IsBody (body_length code) c body → IsBody bytes c body
row-body of here b = record { long = b.long ∙ ap body_length here ∙ of.long; first = b.first }

module _ (has : Bool) (p : Arrays) (holds : PartsHold has p) {code : ℕ} (body : List ℕ) {kind bytes : ℕ} {decode_it : List ℕ → Checked Record}
    (of : Row currencies kind bytes (λ _. has) decode_it) (here : code ≡ kind) where
  abbrev before : SoFar
  before = so_far_in has p.sizes p.option_sizes

  decodes : decode currencies (λ _. has) code body ≡ decode_it body
  decodes = ap (λ (k : ℕ). decode currencies (λ _. has) k body) here ∙ of.decodes body

  -- the kind's own test of 14 is the paper's
  fits : (own : Record → Bool) → ((r : Record) → decode_it body ≡ accepted r → over_limit before r ≡ own r)
      → admitted currencies before code body ≡ (decode_it body >>= (λ r. unless (own r) OverLimit 0 r))
  unfolding admitted
  fits own same = rw decodes (bind-ext (decode_it body) _ _ (λ r e. ap (λ (b : Bool). unless b OverLimit 0 r) (same r e)))

  pub flows-body : Known FlowsOnly (decode_it body) → {answer : Taken} {ledger' : List ℤ} {sizes' : List ℕ}
      → FlowsTaken (decode_it body) p.ledger p.sizes answer ledger' sizes'
      → BodyTaken (admitted currencies before code body) p answer (arrays_as ledger' p.rates p.add_ons sizes' p.option_sizes)
  unfolding flows_fit
  flows-body only t =
      let same = fits _ (λ r e. flows-limit has p.sizes p.option_sizes r holds.sized.sizes-small holds.sized.option_sizes-small (known_of only r e)) in
      rw same (record { answered = t.answered; parts = same-arrays t.cells refl refl t.sums refl ∙ flows-enter p (flows_fit p.sizes (decode_it body)) (fit-known _ only) })

  pub option-body : Known AddOnOnly (decode_it body) → {answer : Taken} {sizes' : List ℕ} {add_ons' : List ℤ}
      → OptionTaken (decode_it body) p.option_sizes p.add_ons answer sizes' add_ons'
      → BodyTaken (admitted currencies before code body) p answer (arrays_as p.ledger p.rates add_ons' p.sizes sizes')
  unfolding options_fit
  option-body only t =
      let same = fits _ (λ r e. options-limit has p.sizes p.option_sizes r holds.sized.sizes-small holds.sized.option_sizes-small (known_of only r e)) in
      rw same (record { answered = t.answered; parts = same-arrays refl refl t.values refl t.sums ∙ option-enter p (options_fit p.option_sizes (decode_it body)) (fit-known _ only) })

  -- a curve passes 14
  pub curve-body : Known CurveOnly (decode_it body) → {answer : Taken} {rates' : List ℤ}
      → CurveTaken (decode_it body) p.rates answer rates'
      → BodyTaken (admitted currencies before code body) p answer (arrays_as p.ledger rates' p.add_ons p.sizes p.option_sizes)
  unfolding ◌>>=◌ unless
  curve-body only t =
      let same = fits (λ _. false) (λ r e. curve-limit has p.sizes p.option_sizes r holds.sized.sizes-small holds.sized.option_sizes-small (known_of only r e)) ∙ passes (decode_it body) in
      rw same (record { answered = t.answered; parts = same-arrays refl t.filled refl refl refl ∙ curve-enter p (decode_it body) only })
    where
      passes : (x : Checked Record) → (x >>= (λ r. unless false OverLimit 0 r)) ≡ x
      passes (accepted r) = refl
      passes (refused q place) = refl

-- ---- what the function of a kind asks for

module _ {has : Bool} {p : Arrays} (h : PartsHold has p) where
  pub flow-parts : FlowParts p.ledger p.sizes
  flow-parts = record { cells-long = h.sized.ledger-long; sizes-long = h.sized.sizes-long; cells-small = h.sized.ledger-small; sizes-small = h.sized.sizes-small }

  pub option-parts : OptionParts p.option_sizes p.add_ons
  option-parts = record { sizes-long = h.sized.option_sizes-long; add-ons-long = h.sized.add_ons-long; sizes-small = h.sized.option_sizes-small; add-ons-small = h.sized.add_ons-small }

  pub rate-parts : RateParts has p.rates
  rate-parts = record { long = h.sized.rates-long; bare = h.bare }

-- no such kind
pub unknown-body : (has : Bool) (p : Arrays) (kind : ℕ) (body : List ℕ) → NoneOf kind
    → BodyTaken (admitted currencies (so_far_in has p.sizes p.option_sizes) kind body) p (Err (fault UnknownKind 0)) p
unfolding admitted ◌>>=◌
unknown-body has p kind body f = rw (none-decoded currencies (λ _. has) kind body f) (record { answered = refl; parts = refl })
