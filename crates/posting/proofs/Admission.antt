-- A record let in by 14, and one that is not: what the parts then hold.
use Prim.Native.Nat.{ℕ, suc, ◌+◌, ◌/◌, ◌%◌, ◌<◌}
use mathlib.Core.Bool.{Bool, true, false, not}
use mathlib.Core.List.{List}
use mathlib.Core.Path.{◌≡◌, refl, sym, ap, ap₂, ◌∙◌}
use native.Mathlib.Omega.{arith}
use lib.IntN.{ℤ, pos, ◌+ℤ◌}
use lib.ListN.{length, get_or}
use Rattle.std.specs.Prelude.{if◌then◌else◌, Ok, Err}
use Rattle.laws.specs.Tests.{◌is◌}
use Rattle.laws.specs.Sums.{sum}
use Rattle.laws.specs.Lists.{tabulate}
use Rattle.laws.proofs.Joins.{joined-ext}
use Rattle.paper.specs.declared.Refusal.TheVariants.{OverLimit}
use Rattle.paper.specs.declared.Fault.{Fault}
use Rattle.paper.specs.Ladder.{buckets, Term, bucket_of}
use Rattle.paper.specs.Refusals.{Checked, accepted, refused, ◌>>=◌, unless}
use Rattle.paper.specs.Records.{Record, Flows, flows, currencies}
use Rattle.paper.specs.Flow.{scenarios, shocked, sided, due, flow_of, flow, magnitude}
use Rattle.paper.specs.Ledger.{section_size}
use Rattle.paper.specs.Sound.{SoundFlows, Sound}
use Rattle.paper.proofs.Checks.{Checks, Inside, known_of}
use Rattle.paper.proofs.Magnitudes.{size-sided}
use Rattle.arrays.specs.Slots.{plus, plus_ℤ, with_flows, with_sizes, with_add_ons, with_option_sizes, option_magnitude, room_for, only_if}
use Rattle.posting.specs.Parts.{FlowParts, Taken, answer_of, Admitted, Entered, column}
use Rattle.posting.proofs.Loops.{row_at}
use Rattle.posting.proofs.Limit.{room-ext, answer-is, passed, failed, sums-are}
use Rattle.posting.proofs.Sides.{sided-nil}
use Rattle.posting.specs.Answers.{taken_of, into, flows_fit, FlowsTaken, options_fit, OptionTaken}

-- ---- by the answer b of 14's test: the record is taken, or refused

module _ (r : Record) where
  taken-is : (b : Bool) → answer_of b ≡ taken_of (unless (not b) OverLimit 0 r)
  unfolding unless
  taken-is true = refl
  taken-is false = refl

  part-is : {A : Type 0} (with' : Record → List A → List A) (part : List A) (b : Bool) → only_if b (with' r part) part ≡ into with' (unless (not b) OverLimit 0 r) part
  unfolding unless
  part-is with' part true = refl
  part-is with' part false = refl

-- ---- a body that its decoder refuses

pub flows-refused : {read : Checked Record} (f : Fault) → read ≡ refused f.cause f.place → (section : List ℤ) (sizes : List ℕ) → FlowsTaken read section sizes (Err f) section sizes
unfolding flows_fit ◌>>=◌
flows-refused f e section sizes = rw e (record { answered = refl; cells = refl; sums = refl })

pub option-refused : {read : Checked Record} (f : Fault) → read ≡ refused f.cause f.place → (sizes : List ℕ) (add_ons : List ℤ) → OptionTaken read sizes add_ons (Err f) sizes add_ons
unfolding options_fit ◌>>=◌
option-refused f e sizes add_ons = rw e (record { answered = refl; sums = refl; values = refl })

-- ---- an option

module _ (r : Record) {more sizes sizes' : List ℕ} {add_ons add_ons' : List ℤ} {answer result : Taken} (long : length sizes ≡ shocked)
    (sized : (j : ℕ) → j < shocked → option_magnitude r j ≡ get_or more j 0) (test : Admitted more sizes answer sizes') where
  option-taken : (b : Bool) → room_for (option_magnitude r) sizes shocked ≡ b → answer ≡ result → add_ons' ≡ only_if b (with_add_ons r add_ons) add_ons
      → OptionTaken (accepted r) sizes add_ons result sizes' add_ons'
  unfolding options_fit ◌>>=◌ with_option_sizes
  option-taken b same told e = let room : Bool = room_for (option_magnitude r) sizes shocked in record {
    answered = sym told ∙ answer-is (option_magnitude r) shocked long sized test ∙ taken-is r room;
    sums = sums-are (option_magnitude r) shocked long sized test ∙ part-is r with_option_sizes sizes room;
    values = e ∙ ap (λ (x : Bool). only_if x (with_add_ons r add_ons) add_ons) (sym same) ∙ part-is r with_add_ons add_ons room;
  }

  pub option-done : {u : Unit {0}} → answer ≡ Ok u → result ≡ Ok u → add_ons' ≡ with_add_ons r add_ons → OptionTaken (accepted r) sizes add_ons result sizes' add_ons'
  option-done t told e = option-taken true (passed _ answer (answer-is (option_magnitude r) shocked long sized test) t) (t ∙ sym told) e

  pub option-not : {f : Fault} → answer ≡ Err f → result ≡ Err f → add_ons' ≡ add_ons → OptionTaken (accepted r) sizes add_ons result sizes' add_ons'
  option-not t told e = option-taken false (failed _ answer (answer-is (option_magnitude r) shocked long sized test) t) (t ∙ sym told) e

-- ---- flows that were entered are the record's where they agree with its flows and magnitudes

pub entered-taken : (r : Record) {read : Checked Record} → read ≡ accepted r → (amounts : ℕ → ℕ) (side : ℕ) (more : ℕ → ℕ) {section section' : List ℤ} {sizes sizes' : List ℕ} {answer : Taken}
    → FlowParts section sizes → ((j : ℕ) → j < section_size → sided side (pos (amounts j)) ≡ flow r (j / buckets) (j % buckets))
    → ((i : ℕ) → i < scenarios → more i ≡ magnitude r i) → Entered amounts side more section sizes answer section' sizes'
    → FlowsTaken read section sizes answer section' sizes'
unfolding flows_fit ◌>>=◌ with_flows with_sizes
entered-taken r accepts amounts side more {section = section} {sizes = sizes} parts flows-are sizes-are h =
    let room : Bool = room_for (magnitude r) sizes scenarios in
    let same : room_for more sizes scenarios ≡ room = room-ext sizes scenarios more (magnitude r) sizes-are in
    let cells : plus_ℤ section (λ j. sided side (pos (amounts j))) ≡ with_flows r section =
    joined-ext ◌+ℤ◌ (pos 0) section _ _ (λ j l. flows-are j (omega (arith, parts.cells-long))) in
    let sums : plus sizes more ≡ with_sizes r sizes = joined-ext ◌+◌ 0 sizes _ _ (λ i l. sizes-are i (omega (arith, parts.sizes-long))) in
    rw accepts (record {
      answered = h.answered ∙ ap answer_of same ∙ taken-is r room;
      cells = h.cells ∙ ap₂ (λ (b : Bool) (l : List ℤ). only_if b l section) same cells ∙ part-is r with_flows section room;
      sums = h.sums ∙ ap₂ (λ (b : Bool) (l : List ℕ). only_if b l sizes) same sums ∙ part-is r with_sizes sizes room;
    })

-- flows of one side, the same in every scenario
pub steady-taken : (c : ℕ) (f : Flows) (side : ℕ) (amounts : ℕ → ℕ) (size : ℕ) {read : Checked Record} {section section' : List ℤ} {sizes sizes' : List ℕ} {answer : Taken}
    → sum amounts buckets ≡ size → ((i k : ℕ) → sided side (pos (amounts k)) ≡ flow_of f i k) → FlowParts section sizes → read ≡ accepted (flows c f)
    → Entered (λ j. amounts (j % buckets)) side (λ i. size) section sizes answer section' sizes' → FlowsTaken read section sizes answer section' sizes'
unfolding flow
steady-taken c f side amounts size whole are parts accepts =
    entered-taken _ accepts _ side _ parts (λ j l. are (j / buckets) (j % buckets)) (λ i l. sym (size-sided c i f side amounts (are i) ∙ whole))

-- what a decoded record with flows is known to be
pub flows-sound : (curved : ℕ → Bool) {bytes c : ℕ} {f : Flows} {m : Checked Record} → Checks (Inside bytes) (Sound currencies curved) m → m ≡ accepted (flows c f) → SoundFlows f
unfolding Sound
flows-sound curved h e = (known_of h _ e).1

-- ---- one amount due at a term

-- the amount as a column is what each bucket sees of it
pub due-column : (side : ℕ) (term : Term) (amount : ℕ) (section : List ℤ)
    → plus_ℤ section (column (bucket_of term) (sided side (pos amount))) ≡ plus_ℤ section (λ j. sided side (pos (due term amount (j % buckets))))
unfolding due column
due-column side term amount section = joined-ext ◌+ℤ◌ (pos 0) section _ _ (λ j _. by (bucket_of term is suc (j % buckets)))
  where
    by : (b : Bool) → (if b then sided side (pos amount) else pos 0) ≡ sided side (pos (if b then amount else 0))
    by true = refl
    by false = sym (sided-nil side)

-- ---- one row of nineteen flows, the same in every scenario

-- a row that was filled by a rule is entered as the rule
pub row-entered : (f : ℕ → ℕ) (side : ℕ) (more : ℕ → ℕ) {section section' : List ℤ} {sizes sizes' l : List ℕ} {answer : Taken} → l ≡ tabulate f buckets
    → Entered (λ j. get_or l (j % buckets) 0) side more section sizes answer section' sizes' → Entered (λ j. f (j % buckets)) side more section sizes answer section' sizes'
row-entered f side more {section = section} {sizes = sizes} e h = record {
  answered = h.answered;
  cells = h.cells ∙ ap (λ (z : List ℤ). only_if (room_for more sizes scenarios) z section)
      (joined-ext ◌+ℤ◌ (pos 0) section _ _ (λ j _. ap (λ (n : ℕ). sided side (pos n)) (row_at f buckets e (j % buckets) (omega arith))));
  sums = h.sums;
}
