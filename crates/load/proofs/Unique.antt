-- Any two outcomes that the contract of `load` permits are one.
use Prim.Native.Nat.{ℕ}
use mathlib.Core.List.{List}
use mathlib.Core.Path.{◌≡◌, refl, sym, ap, ap₂, ◌∙◌}
use native.Mathlib.Omega.{arith}
use Rattle.std.specs.Prelude.{Result, Ok, Err}
use Rattle.paper.specs.declared.Refusal.{Refusal}
use Rattle.paper.specs.declared.Fault.{Fault}
use Rattle.paper.specs.Refusals.{Checked, refused}
use Rattle.paper.specs.Records.{Record}
use Rattle.arrays.specs.Arrays.{Arrays}
use Rattle.arrays.proofs.Sets.{one-mask}
use Rattle.load.specs.Load.{AllLoaded, Loads}

-- where all records are kept, the mask is that of the records
pub one_end : {book : List ℕ} {m n : ℕ} → AllLoaded book m → AllLoaded book n → m ≡ n
one_end p q = one-mask p.curved-is q.curved-is

same-fault : {f g : Fault} → ◌≡◌ {A = Checked (List Record)} (refused f.cause f.place) (refused g.cause g.place) → f ≡ g
same-fault {f} {g} e =
    let cause : f.cause ≡ g.cause = cc in
    let place : f.place ≡ g.place = cc in
    ap₂ (λ (c : Refusal) (n : ℕ). record { cause = c; place = n }) cause place

one_answer : {book : List ℕ} {a b : Arrays} (x y : Result ℕ Fault) → Loads book x a → Loads book y b → x ≡ y
one_answer (Ok m) (Ok n) p q = ap Ok (one_end (p.all m refl) (q.all n refl))
one_answer (Ok m) (Err f) p q = let e = sym (p.all m refl).loaded ∙ q.stopped f refl in let z : ◌≡◌ {A = ℕ} 0 1 = cc in absurd (omega arith)
one_answer (Err f) (Ok m) p q = let e = sym (q.all m refl).loaded ∙ p.stopped f refl in let z : ◌≡◌ {A = ℕ} 0 1 = cc in absurd (omega arith)
one_answer (Err f) (Err g) p q = ap Err (same-fault (sym (p.stopped f refl) ∙ q.stopped g refl))

-- the answer is one, and so is what is left in the arrays, after a refusal too
pub one-load : {book : List ℕ} {a b : Arrays} (x y : Result ℕ Fault) → Loads book x a → Loads book y b → (x ≡ y) × (a ≡ b)
one-load x y p q = (one_answer x y p q, p.arrays ∙ sym q.arrays)
