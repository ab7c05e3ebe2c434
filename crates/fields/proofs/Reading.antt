-- What a reader's answer tells of the field: the value that was read, or its fault.
use Prim.Native.Nat.{ℕ}
use mathlib.Core.Path.{◌≡◌, refl, sym, ap, ◌∙◌}
use lib.IntN.{ℤ}
use Rattle.std.specs.Prelude.{Result, Ok, Err, IsErrAnd}
use Rattle.std.proofs.lemmas.Result.{err_from_is_err_and}
use Rattle.paper.specs.declared.Fault.{Fault}
use Rattle.paper.specs.Refusals.{Checked, accepted, refused, fault, result_of}
use Rattle.scales.specs.declared.Millionths.{Millionths}
use Rattle.scales.specs.declared.Thousands.{Thousands}
use Rattle.scales.specs.declared.SignedThousands.{SignedThousands}
use Rattle.fields.specs.Answers.{as_it_is, thousands, signed_thousands, millionths}

-- what a `?` hands on
pub handed : {B : Type 0} (r : Result B Fault) {f : Fault} → IsErrAnd r (λ g. g ≡ f) → r ≡ Err f
handed r h = let out = err_from_is_err_and r h in out.1 ∙ ap Err out.2

-- some value, where the code holds no more than what stands for it
pub some-value : {A B : Type 0} (as_code : A → B) (m : Checked A) {y : B} → Ok y ≡ result_of as_code m → (x : A) × (m ≡ accepted x) × (y ≡ as_code x)
some-value as_code (accepted x) e = (x, refl, cc)
some-value as_code (refused q place) e = cc

pub bad : {A B : Type 0} (as_code : A → B) {m : Checked A} {f : Fault} → Err f ≡ result_of as_code m → m ≡ refused f.cause f.place
bad as_code {m = accepted x} e = cc
bad {A} as_code {m = refused q place} {f} e =
    let same : fault q place ≡ f = cc in
    ap (λ (g : Fault). refused g.cause g.place) same

-- and where the paper's value is in what stands for it
back : {A B : Type 0} (as_code : A → B) (as_paper : B → A) → ((x : A) → as_paper (as_code x) ≡ x)
    → {m : Checked A} {y : B} → Ok y ≡ result_of as_code m → m ≡ accepted (as_paper y)
back as_code as_paper same {m = accepted x} {y} e =
    let held : as_code x ≡ y = cc in
    ap accepted (sym (same x) ∙ ap as_paper held)
back as_code as_paper same {m = refused q place} e = cc

pub value : {A : Type 0} {m : Checked A} {x : A} → Ok x ≡ result_of as_it_is m → m ≡ accepted x
value = back as_it_is (λ x. x) (λ x. refl)

pub amount-value : {m : Checked ℕ} {x : Thousands} → Ok x ≡ result_of thousands m → m ≡ accepted x.0
amount-value = back thousands (λ x. x.0) (λ x. refl)

pub option-value : {m : Checked ℤ} {x : SignedThousands} → Ok x ≡ result_of signed_thousands m → m ≡ accepted x.0
option-value = back signed_thousands (λ x. x.0) (λ x. refl)

pub rate-value : {m : Checked ℤ} {x : Millionths} → Ok x ≡ result_of millionths m → m ≡ accepted x.0
rate-value = back millionths (λ x. x.0) (λ x. refl)
