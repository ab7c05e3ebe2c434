-- Bytes of a reader that come after those that came before.
use Rattle.std.proofs.Common.{◌≡◌, ℕ, ◌+◌, ◌≤◌, List, ◌++◌, length, take, sym, ap, subst, ◌∙◌, length-take-le}
use Rattle.std.specs.Prelude.{Option}
use Rattle.std.specs.Io.KnownBytes.{Consumes}
use Rattle.std.proofs.KnownBytes.{Consumes-trans}
use Rattle.std.proofs.Math.Seq.{take-append-add}
use Rattle.std.proofs.lemmas.List.{take-append-le}

-- what was filled came from the reader, and so did what was read after it
pub filled_more : (a b c : Option (List ℕ)) (room part after : List ℕ) (filled n : ℕ) → filled ≤ length room → n ≤ length part
    → Consumes a b (take filled room) → Consumes b c (take n part) → Consumes a c (take (filled + n) (take filled room ++ (part ++ after)))
filled_more a b c room part after filled n within fits before read =
    let front = take filled room in
    let all : take (filled + n) (front ++ (part ++ after)) ≡ front ++ take n part =
    ap (λ k. take (k + n) (front ++ (part ++ after))) (sym (length-take-le filled room within)) ∙ take-append-add front (part ++ after) n ∙ ap (λ xs. front ++ xs) (take-append-le n part after fits) in
    subst (Consumes a c) (sym all) (Consumes-trans a b c _ _ before read)
