-- The kinds, one by one: what is known of their records, and their rows in the table. A new kind is one of each, here.
use Prim.Native.Nat.{ℕ, zero, suc, ◌+◌, ◌*◌, ◌≤◌, ◌<◌}
use mathlib.Core.Bool.{Bool, true, false}
use mathlib.Core.List.{List, ◌∷◌}
use mathlib.Core.Logic.{⊎_elim}
use mathlib.Core.Path.{◌≡◌, refl, sym, ap, ◌∙◌}
use native.Mathlib.Omega.{arith}
use lib.ListN.{length, get_or-eq_default}
use borrow.Author.Tests.{eqb-true, eqb-false, ltb-true, ltb-false, ne_eqb}
use Rattle.std.specs.Prelude.{if◌then◌else◌}
use Rattle.laws.specs.Tests.{◌is◌, ◌below◌}
use Rattle.laws.proofs.Tests.{lt-or-ge}
use Rattle.paper.specs.declared.Refusal.TheVariants.{UnknownKind}
use Rattle.paper.specs.Refusals.{number_of, of_field, Checked, refused}
use Rattle.paper.specs.Ladder.{buckets}
use Rattle.paper.specs.Records.{Record, option, curve, kinds, kind_count, body_length, currency_of, is_curve, curve_kind}
use Rattle.paper.specs.Curve.{Curve}
use Rattle.paper.specs.Flow.{flow, adds, gives}
use Rattle.paper.specs.Published.{Size}
use Rattle.paper.specs.TurnedDown.{unknown_kind, interest_alone, second_curve, schedule_over}
use Rattle.paper.specs.Decode.{decode_single, decode_coupons, decode_floating, decode_deposit, decode_loan, decode_term_deposit, decode_option, decode_curve, decode_floating_spread, decode_listed_curve, drawn, decode}
use Rattle.paper.specs.Book.{touches_nothing}
use Rattle.paper.specs.Sound.{Between, Ranged, Listed, SoundFlows, Sound}
use Rattle.paper.proofs.Checks.{Checks, Inside, in_field, in_whole, known, chain, tested, tested-there, each-known}
use Rattle.paper.proofs.Ranges.{side-known, months-known, days-known, period-known, count-known, amount-known, option-known, share-known, category-known, shock-known, amounts-known, rates-known, none-bad, shocked-ranged}
use Rattle.paper.proofs.Published.{listed-known}
use Rattle.paper.proofs.KindLaws.{FlowsOnly, AddOnOnly, CurveOnly, Kind, Reads, begins, flows-read, FirstField, of-kind, no_kind}

-- a bucket's field, where a body has room for a field of each bucket
four-each : (bytes o k : ℕ) → (k below buckets) ≡ true → o + 4 * buckets ≤ bytes → o + 4 * k < bytes
four-each bytes o k t l = omega (arith, ltb-true k buckets t)

-- shocks that lie in the range of typed ones
abbrev ShocksRanged : Curve → Type 0
ShocksRanged z = Between 0 1000 z.shocks.parallel × Between 0 1000 z.shocks.short × Between 0 1000 z.shocks.long

in-typed-range : {shock : ℕ} → Size shock → Between 0 1000 shock
in-typed-range s = record { from = omega arith; to = omega (arith, s.1) }

module _ (top : ℕ) (curved : ℕ → Bool) (body : List ℕ) where
  pub single-kind : Kind top curved FlowsOnly 9 body (decode_single top body)
  unfolding decode_single SoundFlows
  single-kind =
      begins top body (omega arith) (λ c hc.
      chain (side-known body 1 (omega arith)) (λ s hs.
      chain (months-known body 2 (omega arith)) (λ m hm.
      chain (days-known body 4 (omega arith)) (λ d hd.
      chain (amount-known body 5 (omega arith)) (λ a ha.
      flows-read hc (hs, (hm, hd), ha))))))

  pub coupons-kind : Kind top curved FlowsOnly 13 body (decode_coupons top body)
  unfolding decode_coupons SoundFlows
  coupons-kind =
      begins top body (omega arith) (λ c hc.
      chain (side-known body 1 (omega arith)) (λ s hs.
      chain (period-known body 2 (omega arith)) (λ p hp.
      chain (count-known body 3 (omega arith) 0 p) (λ n hn.
      chain (amount-known body 5 (omega arith)) (λ a ha.
      chain (amount-known body 9 (omega arith)) (λ b hb.
      flows-read hc (hs, hp, hn, ha, hb)))))))

  pub floating-kind : Kind top curved FlowsOnly 13 body (decode_floating top body)
  unfolding decode_floating SoundFlows
  floating-kind =
      begins top body (omega arith) (λ c hc.
      chain (side-known body 1 (omega arith)) (λ s hs.
      chain (months-known body 2 (omega arith)) (λ m hm.
      chain (days-known body 4 (omega arith)) (λ d hd.
      chain (amount-known body 5 (omega arith)) (λ a ha.
      chain (amount-known body 9 (omega arith)) (λ b hb.
      flows-read hc (hs, (hm, hd), ha, hb)))))))

  pub deposit-kind : Kind top curved FlowsOnly 82 body (decode_deposit top body)
  unfolding decode_deposit SoundFlows touches_nothing number_of of_field
  deposit-kind =
      begins top body (omega arith) (λ c hc.
      chain (category-known body 1 (omega arith)) (λ g hg.
      chain (amount-known body 2 (omega arith)) (λ a ha.
      chain (amounts-known body 6 (omega arith)) (λ core hs.
      tested _ _ _ _ (in_whole refl refl) (λ e.
      tested _ _ _ _ (in_whole refl refl) (λ f.
      flows-read hc (hg, ha, hs, e, f)))))))

  pub loan-kind : Kind top curved FlowsOnly 155 body (decode_loan top body)
  unfolding decode_loan SoundFlows schedule_over touches_nothing number_of of_field
  loan-kind =
      begins top body (omega arith) (λ c hc.
      chain (share-known body 1 (omega arith)) (λ s hs.
      chain (amounts-known body 3 (omega arith)) (λ ps hp.
      chain (amounts-known body 79 (omega arith)) (λ xs hx.
      tested-there _ _ _ _ (λ t. in_field refl refl (four-each _ 79 _ t (omega arith))) (λ e.
      tested _ _ _ _ (in_whole refl refl) (λ f.
      flows-read hc (hs, hp, hx, none-bad (interest_alone ps xs) e, ltb-false _ _ f)))))))

  pub term-deposit-kind : Kind top curved FlowsOnly 79 body (decode_term_deposit top body)
  unfolding decode_term_deposit SoundFlows
  term-deposit-kind =
      begins top body (omega arith) (λ c hc.
      chain (share-known body 1 (omega arith)) (λ s hs.
      chain (amounts-known body 3 (omega arith)) (λ xs hx.
      flows-read hc (hs, hx))))

  pub option-kind : Kind top curved AddOnOnly 26 body (decode_option top body)
  unfolding decode_option Sound currency_of is_curve flow gives
  option-kind =
      begins top body (omega arith) (λ c hc.
      chain (side-known body 1 (omega arith)) (λ s hs.
      chain (each-known 6 2 (λ o l. option-known body o (omega arith))) (λ vs hv.
      known {a = option c s vs} (record { own = refl; only = record { position = refl; no_flow = λ i k. refl; no-rate = λ i k. refl }; sound = (hc, hs, hv) }))))

  -- a curve of a fresh currency, its rates from o on
  drawn-known : {bytes c : ℕ} (o : ℕ) (z : Curve) → o + 4 * buckets ≤ bytes → Between 1 top c → curved c ≡ false → Listed Ranged buckets z.rates → ShocksRanged z
      → Checks (Inside bytes) (Reads top curved CurveOnly c) (drawn c z o)
  unfolding Sound currency_of is_curve flow adds touches_nothing number_of of_field
  drawn-known {c = c} o z l hc e hr (hp, hh, hg) =
      tested-there _ _ _ _ (λ t. in_field refl refl (four-each _ o _ t l)) (λ f.
      known {a = curve c z} (record {
        own = refl;
        only = record { curved = refl; no_flow = λ i k. refl; no-add-on = λ i. refl };
        sound = (hc, record { fresh = e; base = hr; parallel = hp; short = hh; long = hg; shocked = shocked-ranged _ hr (none-bad _ f) });
      }))

  pub curve-kind : Kind top curved CurveOnly 83 body (decode_curve top curved body)
  unfolding decode_curve second_curve touches_nothing number_of of_field
  curve-kind =
      begins top body (omega arith) (λ c hc.
      tested _ _ _ _ (in_whole refl refl) (λ e.
      chain (rates-known body 1 (omega arith)) (λ rs hr.
      chain (shock-known body 77 (omega arith)) (λ p hp.
      chain (shock-known body 79 (omega arith)) (λ h hh.
      chain (shock-known body 81 (omega arith)) (λ g hg.
      drawn-known 1 _ (omega arith) hc e hr (hp, hh, hg)))))))

  pub floating-spread-kind : Kind top curved FlowsOnly 20 body (decode_floating_spread top body)
  unfolding decode_floating_spread SoundFlows
  floating-spread-kind =
      begins top body (omega arith) (λ c hc.
      chain (side-known body 1 (omega arith)) (λ s hs.
      chain (months-known body 2 (omega arith)) (λ m hm.
      chain (days-known body 4 (omega arith)) (λ d hd.
      chain (amount-known body 5 (omega arith)) (λ a ha.
      chain (amount-known body 9 (omega arith)) (λ b hb.
      chain (period-known body 13 (omega arith)) (λ p hp.
      chain (count-known body 14 (omega arith) m p) (λ n hn.
      chain (amount-known body 16 (omega arith)) (λ x hx.
      flows-read hc (hs, (hm, hd), ha, hb, hp, hn, hx))))))))))

  pub listed-curve-kind : Kind top curved CurveOnly 81 body (decode_listed_curve top curved body)
  unfolding decode_listed_curve second_curve touches_nothing number_of of_field
  listed-curve-kind =
      begins top body (omega arith) (λ c hc.
      tested _ _ _ _ (in_whole refl refl) (λ e.
      chain (listed-known body 1) (λ s hs.
      chain (rates-known body 5 (omega arith)) (λ rs hr.
      drawn-known 5 _ (omega arith) hc e hr (in-typed-range hs.0, in-typed-range hs.1, in-typed-range hs.2)))))

-- ---- the table, row by row: the length of a body and its decoder; and none of them

pub record Row (top kind bytes : ℕ) (curved : ℕ → Bool) (decode_it : List ℕ → Checked Record) : Type 0 where
  pub long : body_length kind ≡ bytes
  pub decodes : (body : List ℕ) → decode top curved kind body ≡ decode_it body

module _ (top : ℕ) (curved : ℕ → Bool) where
  pub row-1 : Row top 1 9 curved (decode_single top)
  unfolding body_length kinds decode
  row-1 = record { long = refl; decodes = λ body. refl }

  pub row-2 : Row top 2 13 curved (decode_coupons top)
  unfolding body_length kinds decode
  row-2 = record { long = refl; decodes = λ body. refl }

  pub row-3 : Row top 3 13 curved (decode_floating top)
  unfolding body_length kinds decode
  row-3 = record { long = refl; decodes = λ body. refl }

  pub row-4 : Row top 4 82 curved (decode_deposit top)
  unfolding body_length kinds decode
  row-4 = record { long = refl; decodes = λ body. refl }

  pub row-5 : Row top 5 155 curved (decode_loan top)
  unfolding body_length kinds decode
  row-5 = record { long = refl; decodes = λ body. refl }

  pub row-6 : Row top 6 79 curved (decode_term_deposit top)
  unfolding body_length kinds decode
  row-6 = record { long = refl; decodes = λ body. refl }

  pub row-7 : Row top 7 26 curved (decode_option top)
  unfolding body_length kinds decode
  row-7 = record { long = refl; decodes = λ body. refl }

  pub row-8 : Row top 8 83 curved (decode_curve top curved)
  unfolding body_length kinds decode
  row-8 = record { long = refl; decodes = λ body. refl }

  pub row-9 : Row top 9 20 curved (decode_floating_spread top)
  unfolding body_length kinds decode
  row-9 = record { long = refl; decodes = λ body. refl }

  pub row-10 : Row top 10 81 curved (decode_listed_curve top curved)
  unfolding body_length kinds decode
  row-10 = record { long = refl; decodes = λ body. refl }

pub row-length : {code kind bytes : ℕ} {top : ℕ} {curved : ℕ → Bool} {decode_it : List ℕ → Checked Record} → Row top kind bytes curved decode_it → code ≡ kind → bytes ≡ body_length code
row-length of here = sym (ap body_length here ∙ of.long)

kinds-counted : length kinds ≡ kind_count
unfolding kinds
kinds-counted = refl

-- none of 1 to n
abbrev pub NoneUpTo : ℕ → ℕ → Type 0
NoneUpTo zero k = Unit
NoneUpTo (suc n) k = NoneUpTo n k × (k ≡ suc n → ⊥)

abbrev pub NoneOf : ℕ → Type 0
NoneOf = NoneUpTo kind_count

only-nought : (n k : ℕ) → NoneUpTo n k → k ≤ n → k ≡ 0
only-nought zero k f l = omega arith
only-nought (suc n) k f l = ⊎_elim (λ less. only-nought n k f.0 (omega arith)) (λ more. absurd (f.1 (omega arith))) (lt-or-ge k (suc n))

pub none-such : (kind : ℕ) → NoneOf kind → body_length kind ≡ 0
unfolding body_length kinds
none-such kind f =
    ⊎_elim (λ past. get_or-eq_default (0 ∷ kinds) 0 {n = kind} past) (λ l. rw (only-nought kind_count kind f (omega arith))) (lt-or-ge kind_count kind)

pub known-kind : (kind : ℕ) → (body_length kind ≡ 0 → ⊥) → (1 ≤ kind) × (kind ≤ kind_count)
unfolding body_length kinds
known-kind kind some =
    (⊎_elim (λ none. absurd (some (rw (nought none)))) (λ l. l) (lt-or-ge kind 1), ⊎_elim (λ past. absurd (some (get_or-eq_default (0 ∷ kinds) 0 {n = kind} past))) (λ l. l) (lt-or-ge kind_count kind))
  where
    nought : kind < 1 → kind ≡ 0
    nought l = omega arith

pub none-decoded : (top : ℕ) (curved : ℕ → Bool) (kind : ℕ) (body : List ℕ) → NoneOf kind → decode top curved kind body ≡ refused UnknownKind 0
unfolding decode
none-decoded top curved kind body f =
    rw (
      other 1 (omega arith),
      other 2 (omega arith),
      other 3 (omega arith),
      other 4 (omega arith),
      other 5 (omega arith),
      other 6 (omega arith),
      other 7 (omega arith),
      other 8 (omega arith),
      other 9 (omega arith),
      other 10 (omega arith),
    )
  where
    other : (n : ℕ) → (1 ≤ n) × (n ≤ kind_count) → (kind is n) ≡ false
    other n l = ne_eqb kind n (λ e. omega (arith, only-nought kind_count kind f (omega arith)))

-- ---- the first field of every kind is its currency

module _ (top : ℕ) (curved : ℕ → Bool) (kind : ℕ) (body : List ℕ) where
  at : (n : ℕ) {m rest : Checked Record} → (kind ≡ n → FirstField top curved kind body m) → ((kind ≡ n → ⊥) → FirstField top curved kind body rest)
      → FirstField top curved kind body (if kind is n then m else rest)
  at n {m} {rest} here away = by (kind is n) refl
    where
      by : (b : Bool) → (kind is n) ≡ b → FirstField top curved kind body (if b then m else rest)
      by true e = here (eqb-true kind n e)
      by false e = away (eqb-false kind n e)

  no_length : body_length kind ≡ 0 → unknown_kind kind ≡ true
  unfolding unknown_kind
  no_length e = rw e

  pub first_field : FirstField top curved kind body (decode top curved kind body)
  unfolding decode body_length kinds curve_kind touches_nothing number_of of_field
  first_field =
      at 1 (λ e. of-kind e refl (λ r only. only.position) (single-kind top curved body)) (λ n1.
      at 2 (λ e. of-kind e refl (λ r only. only.position) (coupons-kind top curved body)) (λ n2.
      at 3 (λ e. of-kind e refl (λ r only. only.position) (floating-kind top curved body)) (λ n3.
      at 4 (λ e. of-kind e refl (λ r only. only.position) (deposit-kind top curved body)) (λ n4.
      at 5 (λ e. of-kind e refl (λ r only. only.position) (loan-kind top curved body)) (λ n5.
      at 6 (λ e. of-kind e refl (λ r only. only.position) (term-deposit-kind top curved body)) (λ n6.
      at 7 (λ e. of-kind e refl (λ r only. only.position) (option-kind top curved body)) (λ n7.
      at 8 (λ e. of-kind e refl (λ r only. only.curved) (curve-kind top curved body)) (λ n8.
      at 9 (λ e. of-kind e refl (λ r only. only.position) (floating-spread-kind top curved body)) (λ n9.
      at 10 (λ e. of-kind e refl (λ r only. only.curved) (listed-curve-kind top curved body)) (λ n10.
      no_kind (in_whole refl refl) (no_length (none-such kind ((((((((((tt, n1), n2), n3), n4), n5), n6), n7), n8), n9), n10)))))))))))))
