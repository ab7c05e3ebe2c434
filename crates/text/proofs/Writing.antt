-- Texts written one after the other are one text: what each writer says of its own part adds up to the whole.
use Prim.Native.Nat.{ℕ, zero, suc, ◌+◌, ◌≤◌, ◌<◌}
use mathlib.Core.List.{List, [], ◌∷◌, ◌++◌, append_assoc, append-nil}
use mathlib.Core.Path.{◌≡◌, refl, sym, ap, ◌∙◌}
use native.Mathlib.Nat.{add-zero, zero-add, suc-add}
use native.Mathlib.Numerals.{add-one}
use native.Mathlib.Omega.{arith}
use lib.ListN.{length, drop, set, length-append, take-append-drop, drop_of_length-le}
use lib.Seq.{take_all, take-append_seam, drop-append_seam, drop-nil, drop-drop, set_split}
use Rattle.text.specs.Written.{written, Wrote}

-- past the buffer's end a text is appended, so that the laws below have no condition
appended : (at : ℕ) (s l : List ℕ) → length l ≤ at → written at s l ≡ l ++ s
unfolding written
appended at s l h =
    let e : drop at l ≡ [] = drop_of_length-le l h in
    rw (take_all at l h, e, drop-nil, append-nil)

written_then : (at : ℕ) (s t l : List ℕ) → written (at + length s) t (written at s l) ≡ written at (s ++ t) l
unfolding written
written_then zero s t l =
    rw (zero-add, take-append_seam, drop-append_seam, length-append, drop-drop (length t) (length s) l, append_assoc)
written_then (suc at) s t [] =
    rw (drop-nil {A = ℕ} (length s), drop-nil {A = ℕ} (length (s ++ t)), append-nil s, append-nil (s ++ t)) (appended (suc at + length s) t s (omega arith))
written_then (suc at) s t (x ∷ l) = rw suc-add (ap (λ (m : List ℕ). x ∷ m) (written_then at s t l))

pub wrote_none : (at : ℕ) (l : List ℕ) → Wrote [] at l at l
unfolding written
wrote_none at l = record { next-is = sym (add-zero at); after_is = sym (take-append-drop at l) }

pub wrote-byte : (at : ℕ) (l : List ℕ) (byte : ℕ) → at < length l → Wrote (byte ∷ []) at l (at + 1) (set l at byte)
unfolding written
wrote-byte at l byte h = record { next-is = refl; after_is = rw (drop-drop, add-one, set_split l at byte h) }

pub wrote_then : {s t : List ℕ} {at next last : ℕ} {l m r : List ℕ} → Wrote s at l next m → Wrote t next m last r → Wrote (s ++ t) at l last r
wrote_then {s} {t} {at} {l = l} w v = record {
  next-is = omega (arith, w.next-is, v.next-is, length-append s t);
  after_is = v.after_is ∙ rw (w.next-is, w.after_is) (written_then at s t l);
}

-- from the buffer's start
pub first-wrote : {text l m : List ℕ} {next : ℕ} → next ≡ length text → m ≡ text ++ drop next l → Wrote text 0 l next m
unfolding written
first-wrote {text} {l} e f = record { next-is = e ∙ sym (zero-add (length text)); after_is = f ∙ ap (λ (n : ℕ). text ++ drop n l) e }

pub wrote-first : {text l m : List ℕ} {next : ℕ} → Wrote text 0 l next m → (next ≡ length text) × (m ≡ text ++ drop next l)
unfolding written
wrote-first {text} {l} w =
    let count = w.next-is ∙ zero-add (length text) in
    (count, w.after_is ∙ ap (λ (n : ℕ). text ++ drop n l) (sym count))
