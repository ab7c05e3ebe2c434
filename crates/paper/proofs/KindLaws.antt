-- What the records of a kind are known to be: a body begins with its currency, so that this can be read before the kind is looked at; kinds 1 to 6 and 9 have flows and
-- add nothing, kind 7 adds and has no flow, a curve does neither; every field lies in its range; a refusal is told within the record.
use Prim.Native.Nat.{ℕ, ◌<◌}
use mathlib.Core.Bool.{Bool, true, false, true≢false}
use mathlib.Core.List.{List}
use mathlib.Core.Path.{◌≡◌, refl, sym, ap, subst, ◌∙◌}
use lib.IntN.{pos}
use Rattle.paper.specs.declared.Refusal.{Refusal}
use Rattle.paper.specs.Refusals.{Checked, accepted, refused, ◌>>=◌}
use Rattle.paper.specs.Records.{Flows, Record, flows, body_length, currency_of, is_curve, curve_kind}
use Rattle.paper.specs.Flow.{flow, adds, gives}
use Rattle.paper.specs.TurnedDown.{unknown_kind}
use Rattle.paper.specs.Fields.{currency_at}
use Rattle.paper.specs.Sound.{Between, SoundFlows, Sound}
use Rattle.paper.proofs.Checks.{Checks, Known, Inside, known, gone, weaker, forget, chain}
use Rattle.paper.proofs.Ranges.{currency-known}

-- flows alone
pub record FlowsOnly (r : Record) : Type 0 where
  pub position : is_curve r ≡ false
  pub no-add-on : (i : ℕ) → adds r i ≡ pos 0
  pub no-rate : (i k : ℕ) → gives r i k ≡ pos 0

-- an option add-on
pub record AddOnOnly (r : Record) : Type 0 where
  pub position : is_curve r ≡ false
  pub no_flow : (i k : ℕ) → flow r i k ≡ pos 0
  pub no-rate : (i k : ℕ) → gives r i k ≡ pos 0

-- rates
pub record CurveOnly (r : Record) : Type 0 where
  pub curved : is_curve r ≡ true
  pub no_flow : (i k : ℕ) → flow r i k ≡ pos 0
  pub no-add-on : (i : ℕ) → adds r i ≡ pos 0

-- ---- a body that begins with its currency

-- what is known of a record once its currency c is read
pub record Reads (top : ℕ) (curved : ℕ → Bool) (Only : Record → Type 0) (c : ℕ) (r : Record) : Type 0 where
  pub own : currency_of r ≡ c
  pub only : Only r
  pub sound : Sound top curved r

-- a kind whose bodies have so many bytes
pub record Kind (top : ℕ) (curved : ℕ → Bool) (Only : Record → Type 0) (bytes : ℕ) (body : List ℕ) (m : Checked Record) : Type 0 where
  -- a bad currency refuses the record
  pub refuses : (q : Refusal) (place : ℕ) → currency_at top body 0 ≡ refused q place → m ≡ refused q place
  -- a good one is the record's own
  pub own : Known (λ r. currency_at top body 0 ≡ accepted (currency_of r)) m
  pub only : Known Only m
  pub sound : Checks (Inside bytes) (Sound top curved) m

pub begins : (top : ℕ) {curved : ℕ → Bool} {Only : Record → Type 0} {bytes : ℕ} (body : List ℕ) {next : ℕ → Checked Record} → 0 < bytes
    → ((c : ℕ) → Between 1 top c → Checks (Inside bytes) (Reads top curved Only c) (next c)) → Kind top curved Only bytes body (currency_at top body 0 >>= next)
unfolding ◌>>=◌
begins top {curved} {Only} {bytes} body {next} l rest = record {
  refuses = refuses;
  own = by (currency_at top body 0) refl (currency-known body 0 l top);
  only = forget (chain (currency-known body 0 l top) (λ c h. weaker (λ r k. k.only) (rest c h)));
  sound = chain (currency-known body 0 l top) (λ c h. weaker (λ r k. k.sound) (rest c h));
}
  where
    by : (x : Checked ℕ) → currency_at top body 0 ≡ x → Checks (Inside bytes) (Between 1 top) x → Known (λ r. currency_at top body 0 ≡ accepted (currency_of r)) (x >>= next)
    by (accepted c) e (known h) = forget (weaker (λ r k. e ∙ ap accepted (sym k.own)) (rest c h))
    by (refused q place) e h = gone tt

    refuses : (q : Refusal) (place : ℕ) → currency_at top body 0 ≡ refused q place → (currency_at top body 0 >>= next) ≡ refused q place
    refuses q place e = rw e

pub flows-read : {top : ℕ} {curved : ℕ → Bool} {bytes c : ℕ} {f : Flows} → Between 1 top c → SoundFlows f → Checks (Inside bytes) (Reads top curved FlowsOnly c) (accepted (flows c f))
unfolding currency_of is_curve adds gives Sound
flows-read {c = c} {f = f} h s = known {a = flows c f} (record { own = refl; only = record { position = refl; no-add-on = λ i. refl; no-rate = λ i k. refl }; sound = (h, s) })

-- ---- of whatever kind

pub record FirstField (top : ℕ) (curved : ℕ → Bool) (kind : ℕ) (body : List ℕ) (m : Checked Record) : Type 0 where
  -- a bad currency refuses a record of every kind
  pub refuses : unknown_kind kind ≡ false → (q : Refusal) (place : ℕ) → currency_at top body 0 ≡ refused q place → m ≡ refused q place
  -- a good one is the record's own
  pub own : Known (λ r. currency_at top body 0 ≡ accepted (currency_of r)) m
  pub marks : Known (λ r. is_curve r ≡ curve_kind kind) m
  pub sound : Checks (Inside (body_length kind)) (Sound top curved) m

pub of-kind : {top : ℕ} {curved : ℕ → Bool} {kind n bytes : ℕ} {body : List ℕ} {m : Checked Record} {Only : Record → Type 0} → kind ≡ n → body_length n ≡ bytes
    → ((r : Record) → Only r → is_curve r ≡ curve_kind n) → Kind top curved Only bytes body m → FirstField top curved kind body m
of-kind {top} {curved} {m = m} here long marks k = record {
  refuses = λ _. k.refuses;
  own = k.own;
  marks = weaker (λ r only. marks r only ∙ ap curve_kind (sym here)) k.only;
  sound = subst (λ (b : ℕ). Checks (Inside b) (Sound top curved) m) (sym (ap body_length here ∙ long)) k.sound;
}

pub no_kind : {top : ℕ} {curved : ℕ → Bool} {kind : ℕ} {body : List ℕ} {q : Refusal} {place : ℕ} → Inside (body_length kind) q place → unknown_kind kind ≡ true → FirstField top curved kind body (refused q place)
no_kind c e = record { refuses = λ f. let z : ◌≡◌ {A = Bool} true false = cc in absurd (true≢false z); own = gone tt; marks = gone tt; sound = gone c }
