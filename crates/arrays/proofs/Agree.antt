-- What a record is tested against may be told by the records kept, by the arrays or by its currency's own parts: where two of them agree on the currency, its body
-- reads the same.
use Prim.Native.Nat.{ℕ, suc, ◌+◌, ◌*◌, ◌-◌, ◌≤◌, ◌<◌}
use mathlib.Core.Bool.{Bool, true, false, true≢false, ◌||◌}
use mathlib.Core.List.{List}
use mathlib.Core.Path.{◌≡◌, refl, sym, ap, ap₂, ◌∙◌}
use native.Mathlib.Omega.{arith}
use lib.IntN.{nat_abs}
use lib.ListN.{take, drop}
use Rattle.laws.specs.Tests.{◌below◌}
use Rattle.laws.proofs.Tests.{any-ext}
use Rattle.laws.proofs.Sections.{section-at}
use Rattle.paper.specs.Scales.{billion}
use Rattle.paper.specs.declared.Refusal.{Refusal}
use Rattle.paper.specs.declared.Refusal.TheVariants.{OverLimit}
use Rattle.paper.specs.Refusals.{Checked, accepted, refused, ◌>>=◌, ◌>>◌, unless}
use Rattle.paper.specs.Records.{Record, flows, option, curve, currencies, currency_of, is_curve, body_length}
use Rattle.paper.specs.Flow.{scenarios, shocked, adds, magnitude}
use Rattle.paper.specs.Ledger.{SoFar}
use Rattle.paper.specs.TurnedDown.{unknown_kind, second_curve, flows_over, options_over, over_limit}
use Rattle.paper.specs.Fields.{byte, currency_at}
use Rattle.paper.specs.Decode.{decode_curve, decode_listed_curve, decode}
use Rattle.paper.specs.Book.{admitted, record_at}
use Rattle.paper.proofs.Checks.{known_of}
use Rattle.paper.specs.Sound.{Between, Sound}
use Rattle.paper.proofs.Ranges.{currency-known}
use Rattle.paper.proofs.KindTable.{first_field}
use Rattle.arrays.specs.Masks.{curved_by}
use Rattle.arrays.specs.Rooms.{size_by, option_size_by, so_far_by, so_far_in}
use Rattle.arrays.specs.Arrays.{part_of}

-- on one currency
pub record Agree (c : ℕ) (before after : SoFar) : Type 0 where
  pub curved : before.curved c ≡ after.curved c
  pub size : (i : ℕ) → i < scenarios → before.size c i ≡ after.size c i
  pub option_size : (i : ℕ) → 1 ≤ i → i ≤ shocked → before.option_size c i ≡ after.option_size c i

-- one after the other, the second by what the first accepted
pub bind-ext : {A B : Type 0} (m : Checked A) (next next' : A → Checked B) → ((a : A) → m ≡ accepted a → next a ≡ next' a) → (m >>= next) ≡ (m >>= next')
unfolding ◌>>=◌
bind-ext (accepted a) next next' h = h a refl
bind-ext (refused r place) next next' h = refl

pub sound-currency : (curved : ℕ → Bool) (r : Record) → Sound currencies curved r → Between 1 currencies (currency_of r)
unfolding Sound currency_of
sound-currency curved (flows c f) s = s.0
sound-currency curved (option c side values) s = s.0
sound-currency curved (curve c z) s = s.0

pub sound-fresh : (curved : ℕ → Bool) (r : Record) → Sound currencies curved r → is_curve r ≡ true → curved (currency_of r) ≡ false
unfolding Sound currency_of is_curve
sound-fresh curved (flows c f) s e = absurd (true≢false (sym e))
sound-fresh curved (option c side values) s e = absurd (true≢false (sym e))
sound-fresh curved (curve c z) s e = s.1.fresh

-- ---- a body reads the same where the two agree on its currency

module _ (c : ℕ) (x y : SoFar) (agree : Agree c x y) (body : List ℕ) (read : currency_at currencies body 0 ≡ accepted c) where
  curve-agrees : decode_curve currencies x.curved body ≡ decode_curve currencies y.curved body
  unfolding decode_curve second_curve ◌>>=◌
  curve-agrees = rw (read, agree.curved)

  listed-curve-agrees : decode_listed_curve currencies x.curved body ≡ decode_listed_curve currencies y.curved body
  unfolding decode_listed_curve second_curve ◌>>=◌
  listed-curve-agrees = rw (read, agree.curved)

  decode-agrees : (kind : ℕ) → decode currencies x.curved kind body ≡ decode currencies y.curved kind body
  unfolding decode
  decode-agrees kind = rw (curve-agrees, listed-curve-agrees)

  over-agrees : (r : Record) → currency_of r ≡ c → over_limit x r ≡ over_limit y r
  unfolding over_limit flows_over options_over
  over-agrees r e =
      let own : Agree (currency_of r) x y = rw e agree in
      ap₂ ◌||◌
      (any-ext (flows_over x r) (flows_over y r) 0 7 (λ i _ l. ap (λ (n : ℕ). billion below n + magnitude r i) (own.size i l)))
      (any-ext (options_over x r) (options_over y r) 1 6 (λ i l h. ap (λ (n : ℕ). billion below n + nat_abs (adds r i)) (own.option_size i l (omega arith))))

  pub admitted-agrees : (kind : ℕ) → admitted currencies x kind body ≡ admitted currencies y kind body
  unfolding admitted
  admitted-agrees kind =
      bind-ext (decode currencies x.curved kind body) _ _ (λ r e.
      let own : currency_at currencies body 0 ≡ accepted (currency_of r) = known_of (first_field currencies x.curved kind body).own r e in
      let same : currency_of r ≡ c = cc in
      ap (λ (b : Bool). unless b OverLimit 0 r) (over-agrees r same))
      ∙ ap (λ (m : Checked Record). m >>= (λ r. unless (over_limit y r) OverLimit 0 r)) (decode-agrees kind)

-- ---- a place reads the same where they agree on all currencies

module _ (x y : SoFar) (agree : (c : ℕ) → 1 ≤ c → c ≤ currencies → Agree c x y) where
  refused-alike : (kind : ℕ) (body : List ℕ) (q : Refusal) (place : ℕ) → unknown_kind kind ≡ false → currency_at currencies body 0 ≡ refused q place → admitted currencies x kind body ≡ admitted currencies y kind body
  unfolding admitted ◌>>=◌
  refused-alike kind body q place known e = rw ((first_field currencies x.curved kind body).refuses known q place e, (first_field currencies y.curved kind body).refuses known q place e)

  all-agree : (kind : ℕ) (body : List ℕ) → unknown_kind kind ≡ false → admitted currencies x kind body ≡ admitted currencies y kind body
  all-agree kind body known = by (currency_at currencies body 0) refl
    where
      by : (m : Checked ℕ) → currency_at currencies body 0 ≡ m → admitted currencies x kind body ≡ admitted currencies y kind body
      by (accepted c) e = let b : Between 1 currencies c = known_of (currency-known {bytes = 1} body 0 (omega arith) currencies) c e in admitted-agrees c x y (agree c b.from b.to) body e kind
      by (refused q place) e = refused-alike kind body q place known e

  pub record-agrees : (book : List ℕ) (at : ℕ) → record_at currencies x book at ≡ record_at currencies y book at
  unfolding record_at unless ◌>>◌
  record-agrees book at = by (unknown_kind (byte book at)) refl
    where
      by : (b : Bool) → unknown_kind (byte book at) ≡ b → record_at currencies x book at ≡ record_at currencies y book at
      by true e = rw e
      by false e = rw (all-agree (byte book at) (take (body_length (byte book at)) (drop (suc at) book)) e)

-- ---- by a currency's own parts

pub parts-agree : (mask : ℕ) (sizes option_sizes : List ℕ) (c : ℕ) → Agree c (so_far_by mask sizes option_sizes) (so_far_in (curved_by mask c) (part_of scenarios c sizes) (part_of shocked c option_sizes))
unfolding size_by option_size_by
parts-agree mask sizes option_sizes c = record {
  curved = refl;
  size = λ i l. sym (section-at (scenarios * (c - 1)) scenarios sizes i 0 l);
  option_size = λ i l h. sym (section-at (shocked * (c - 1)) shocked option_sizes (i - 1) 0 (omega arith));
}
