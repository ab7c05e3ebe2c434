-- A currency's parts, lent and put back: what was taken into them is taken into the arrays.
use Prim.Native.Nat.{ℕ, ◌+◌, ◌*◌, ◌-◌}
use mathlib.Core.Bool.{Bool}
use mathlib.Core.List.{List, ◌++◌}
use mathlib.Core.Path.{◌≡◌, refl, sym, ap, ◌∙◌}
use native.Mathlib.Omega.{arith}
use lib.ListN.{take, drop}
use Rattle.laws.proofs.Sections.{splice-same}
use Rattle.paper.specs.Refusals.{Checked, accepted, refused}
use Rattle.paper.specs.Flow.{scenarios, shocked}
use Rattle.paper.specs.Records.{Record, currency_of, currencies}
use Rattle.paper.specs.Ledger.{section_size}
use Rattle.paper.specs.Fields.{currency_at}
use Rattle.paper.specs.Book.{admitted}
use Rattle.paper.proofs.Checks.{Known, known_of, chain, unless-known}
use Rattle.paper.proofs.KindTable.{first_field}
use Rattle.arrays.specs.Masks.{curved_by}
use Rattle.arrays.specs.Rooms.{so_far_by, so_far_in}
use Rattle.arrays.specs.Arrays.{Arrays, arrays_as, part_of, parts_of, with_parts, in_parts, with_record, PartsHold}
use Rattle.arrays.proofs.Agree.{admitted-agrees, parts-agree}
use Rattle.arrays.proofs.More.{same-arrays}
use Rattle.posting.specs.Parts.{Taken}
use Rattle.posting.specs.Answers.{into}
use Rattle.kinds.specs.Bodies.{BodyTaken}
use Rattle.lending.specs.Records.{RecordTaken}

-- the length of a part as the code lends it, from width * n up to width * n + width, counted
part-long : (width n : ℕ) → width * n + width - width * n ≡ width
part-long width n = omega arith

-- ---- the arrays of what a body read

-- an admitted record has its body's currency
pub admitted-own : (mask : ℕ) (sizes option_sizes : List ℕ) (kind : ℕ) (body : List ℕ)
    → Known (λ r. currency_at currencies body 0 ≡ accepted (currency_of r)) (admitted currencies (so_far_by mask sizes option_sizes) kind body)
unfolding admitted
admitted-own mask sizes option_sizes kind body = chain (first_field currencies _ kind body).own (λ r e. unless-known _ _ _ r tt (λ _. e))

put_back : (c : ℕ) (a : Arrays) (x : Checked Record) → ((r : Record) → x ≡ accepted r → currency_of r ≡ c) → with_parts c a (into in_parts x (parts_of c a)) ≡ into with_record x a
unfolding with_record
put_back c a (accepted r) own = rw (own r refl)
put_back c a (refused q place) own =
    same-arrays (splice-same (section_size * (c - 1)) section_size a.ledger) (splice-same (section_size * (c - 1)) section_size a.rates)
    (splice-same (shocked * (c - 1)) shocked a.add_ons) (splice-same (scenarios * (c - 1)) scenarios a.sizes)
    (splice-same (shocked * (c - 1)) shocked a.option_sizes)

module _ (mask : ℕ) (a : Arrays) (c kind : ℕ) (body : List ℕ) (read : currency_at currencies body 0 ≡ accepted c) where
  pub parts-taken : {answer : Taken} {p' : Arrays}
      → BodyTaken (admitted currencies (so_far_in (curved_by mask c) (part_of scenarios c a.sizes) (part_of shocked c a.option_sizes)) kind body) (parts_of c a) answer p'
      → RecordTaken (admitted currencies (so_far_by mask a.sizes a.option_sizes) kind body) a answer (with_parts c a p')
  parts-taken t =
      let same = admitted-agrees c _ _ (parts-agree mask a.sizes a.option_sizes c) body read kind in
      let u = rw (sym same) at t in
      let own : (r : Record) → admitted currencies (so_far_by mask a.sizes a.option_sizes) kind body ≡ accepted r → currency_of r ≡ c =
      λ r e. let mine : currency_at currencies body 0 ≡ accepted (currency_of r) = known_of (admitted-own mask a.sizes a.option_sizes kind body) r e in cc in
      record { answered = u.answered; arrays = ap (with_parts c a) u.parts ∙ put_back c a (admitted currencies (so_far_by mask a.sizes a.option_sizes) kind body) own }

-- ---- as the code lends them

abbrev cut : {A : Type 0} → ℕ → ℕ → List A → List A
cut width c l = take (width * (c - 1) + width - width * (c - 1)) (drop (width * (c - 1)) l)

abbrev pasted : {A : Type 0} → ℕ → ℕ → List A → List A → List A
pasted width c l part = take (width * (c - 1)) l ++ (part ++ drop (width * (c - 1) + width - width * (c - 1)) (drop (width * (c - 1)) l))

abbrev cut_of : ℕ → Arrays → Arrays
cut_of c a = arrays_as (cut section_size c a.ledger) (cut section_size c a.rates) (cut shocked c a.add_ons) (cut scenarios c a.sizes) (cut shocked c a.option_sizes)

pub lent-hold : (c : ℕ) (a : Arrays) {has own : Bool} → has ≡ own → PartsHold own (parts_of c a) → PartsHold has (cut_of c a)
lent-hold c a e h = rw (e, part-long section_size (c - 1), part-long shocked (c - 1), part-long scenarios (c - 1)) h

pub lent-taken : (mask : ℕ) (a : Arrays) (c kind : ℕ) (body : List ℕ) → currency_at currencies body 0 ≡ accepted c → {has : Bool} → has ≡ curved_by mask c → {answer : Taken} {p' : Arrays}
    → BodyTaken (admitted currencies (so_far_in has (cut scenarios c a.sizes) (cut shocked c a.option_sizes)) kind body) (cut_of c a) answer p'
    → RecordTaken (admitted currencies (so_far_by mask a.sizes a.option_sizes) kind body) a answer
    (arrays_as (pasted section_size c a.ledger p'.ledger) (pasted section_size c a.rates p'.rates) (pasted shocked c a.add_ons p'.add_ons) (pasted scenarios c a.sizes p'.sizes) (pasted shocked c a.option_sizes p'.option_sizes))
lent-taken mask a c kind body read e t =
    rw (part-long section_size (c - 1), part-long shocked (c - 1), part-long scenarios (c - 1))
    (parts-taken mask a c kind body read (rw (e, part-long section_size (c - 1), part-long shocked (c - 1), part-long scenarios (c - 1)) at t))
