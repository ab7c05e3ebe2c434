-- `decode_floating_spread` meets its contract: kind 3's fields by kind 3's decoder, then field by field.
use Prim.Native.Nat.{ℕ, ◌<◌}
use mathlib.Core.List.{List}
use mathlib.Core.Path.{◌≡◌, sym, ap, ◌∙◌}
use native.Mathlib.Omega.{arith}
use lib.ListN.{get_or, take, length-take}
use lib.Seq.{get_or-take}
use Rattle.paper.specs.declared.Refusal.{Refusal}
use Rattle.paper.specs.declared.Fault.{Fault}
use Rattle.paper.specs.Ladder.{Term}
use Rattle.paper.specs.Refusals.{Checked, accepted, refused, ◌>>=◌, checked_as}
use Rattle.paper.specs.Records.{Record, flows, floating, floating_spread, currencies}
use Rattle.paper.specs.Fields.{period_at, count_at, amount_at}
use Rattle.paper.specs.Decode.{decode_floating, decode_floating_spread}
use Rattle.std.specs.Prelude.{Ok, Err}
use Rattle.fields.specs.Answers.{as_it_is, thousands}
use Rattle.fields.proofs.Reading.{handed, value, bad, amount-value}
use Rattle.record.specs.declared.floating.Floating.{Floating}
use Rattle.record.specs.Answers.{floating_of}
use Rattle.record.proofs.floating_spread.decode_floating_spread.Goals as goal

-- ---- kind 3's decoder is lent the first 13 bytes

abbrev as_flows : Floating → Record
as_flows s = flows s.currency (floating_of s)

module _ (body : List ℕ) where
  same_byte : (o : ℕ) → o < 13 → get_or (take 13 body) o 0 ≡ get_or body o 0
  same_byte o l = get_or-take 13 body o 0 l

  head : decode_floating currencies (take 13 body) ≡ decode_floating currencies body
  unfolding decode_floating
  head =
      rw (
        same_byte 0 (omega arith),
        same_byte 1 (omega arith),
        same_byte 2 (omega arith),
        same_byte 3 (omega arith),
        same_byte 4 (omega arith),
        same_byte 5 (omega arith),
        same_byte 6 (omega arith),
        same_byte 7 (omega arith),
        same_byte 8 (omega arith),
        same_byte 9 (omega arith),
        same_byte 10 (omega arith),
        same_byte 11 (omega arith),
        same_byte 12 (omega arith),
      )

  -- ---- a record of kind 9 is refused where kind 3's fields are, and goes on where they are good

  rest : ℕ → ℕ → Term → ℕ → ℕ → Checked Record
  rest c side reset principal coupon = do
    period ← period_at body 13
    count ← count_at reset.months period body 14
    spread ← amount_at body 16
    accepted (flows c (floating_spread side reset principal coupon period count spread))

  record Follows (before whole : Checked Record) : Type 0 where
    refuses : (q : Refusal) (place : ℕ) → before ≡ refused q place → whole ≡ refused q place
    goes_on : (c side : ℕ) (reset : Term) (principal coupon : ℕ) → before ≡ accepted (flows c (floating side reset principal coupon)) → whole ≡ rest c side reset principal coupon

  link : {A : Type 0} (m : Checked A) {f g : A → Checked Record} → ((a : A) → Follows (f a) (g a)) → Follows (m >>= f) (m >>= g)
  unfolding ◌>>=◌
  link (accepted a) h = h a
  link (refused q place) h = record { refuses = λ r o e. e; goes_on = λ c s t p x e. cc }

  last : (c side : ℕ) (reset : Term) (principal coupon : ℕ) → Follows (accepted (flows c (floating side reset principal coupon))) (rest c side reset principal coupon)
  last c side reset principal coupon = record { refuses = λ q place e. cc; goes_on = λ d s t p x e. cc }

  follows : Follows (decode_floating currencies body) (decode_floating_spread currencies body)
  unfolding decode_floating decode_floating_spread rest
  follows = link _ (λ c. link _ (λ s. link _ (λ m. link _ (λ d. link _ (λ p. link _ (λ x. last c s (record { months = m; days = d }) p x))))))

  -- by what kind 3's decoder answers
  good : (s : Floating) {lent : List ℕ} → lent ≡ take 13 body → checked_as as_flows (Ok s) ≡ decode_floating currencies lent
      → decode_floating_spread currencies body ≡ rest s.currency s.side (record { months = s.months; days = s.days }) s.principal.0 s.coupon.0
  unfolding checked_as
  good s same told = follows.goes_on _ _ _ _ _ (sym head ∙ sym (told ∙ ap (decode_floating currencies) same))

  not_good : (f : Fault) {lent : List ℕ} → lent ≡ take 13 body → checked_as as_flows (Err f) ≡ decode_floating currencies lent → decode_floating_spread currencies body ≡ refused f.cause f.place
  unfolding checked_as
  not_good f same told = follows.refuses _ _ (sym head ∙ sym (told ∙ ap (decode_floating currencies) same))

pub slice_bounds-new-end : goal.slice_bounds-new-end
slice_bounds-new-end c =
    let body = c.args.body in
    omega (arith, length-take 13 body.bytes.now, body.known.long)

pub returns-in_err-floating : goal.returns-in_err-floating
unfolding checked_as
returns-in_err-floating c = rw (handed _ c.from_residual.ensures.1, not_good _ _ c.new.ensures.0 c.in_err-floating.ensures)

pub returns-in_err-period : goal.returns-in_err-period
unfolding rest ◌>>=◌ checked_as
returns-in_err-period c = rw (handed _ c.from_residual-in_err-period.ensures.1, good _ _ c.new.ensures.0 c.in_ok-floating.ensures, bad as_it_is c.in_err-period.ensures)

pub returns-in_err-count : goal.returns-in_err-count
unfolding rest ◌>>=◌ checked_as
returns-in_err-count c =
    rw (handed _ c.from_residual-in_err-count.ensures.1, good _ _ c.new.ensures.0 c.in_ok-floating.ensures, value c.in_ok-period.ensures, bad as_it_is c.in_err-count.ensures)

pub returns-in_err-spread : goal.returns-in_err-spread
unfolding rest ◌>>=◌ checked_as
returns-in_err-spread c =
    rw (handed _ c.from_residual-in_err-spread.ensures.1, good _ _ c.new.ensures.0 c.in_ok-floating.ensures, value c.in_ok-period.ensures, value c.in_ok-count.ensures, bad thousands c.in_err-spread.ensures)

pub returns : goal.returns
unfolding rest ◌>>=◌ checked_as
returns c = rw (good _ _ c.new.ensures.0 c.in_ok-floating.ensures, value c.in_ok-period.ensures, value c.in_ok-count.ensures, amount-value c.in_ok-spread.ensures)
