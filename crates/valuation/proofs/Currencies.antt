-- Figures filled currency by currency: the first n currencies have theirs, and nothing stands after them.
use Prim.Native.Nat.{ℕ, ◌+◌, ◌*◌, ◌-◌, ◌/◌, ◌%◌, ◌≤◌, ◌<◌}
use mathlib.Core.List.{List}
use mathlib.Core.Logic.{⊎_elim}
use mathlib.Core.Path.{◌≡◌, refl, sym, ap₂, ◌∙◌}
use native.Mathlib.Numerals.{add-one}
use native.Mathlib.Omega.{arith}
use lib.IntN.{ℤ, pos}
use lib.ListN.{get_or, replicate, length-replicate, get_or-replicate, get_or-eq_default}
use Rattle.laws.specs.Lists.{tabulate_from}
use Rattle.laws.proofs.Tests.{lt-or-ge}
use Rattle.laws.proofs.Lists.{tabulate_from-length, tabulate-from, tabulate-ext}
use Rattle.laws.proofs.Sections.{splice-after}
use Rattle.laws.proofs.Filling.{Rows, rows_none, rows_next, rows_all}
use Rattle.paper.specs.Records.{currencies}
use Rattle.paper.specs.Flow.{shocked}
use Rattle.paper.specs.Verdict.{changes_of}
use Rattle.change.specs.Figures.{with_figures}

module _ (f : ℕ → ℕ → ℤ) where
  -- by a currency less 1 and a scenario less 1
  abbrev figure : ℕ → ℕ → ℤ
  figure c i = f (c + 1) (i + 1)

  pub record UpTo (n : ℕ) (list : List ℤ) : Type 0 where
    pub rows : Rows (pos 0) figure shocked (shocked * currencies) n list
    pub rest : (j : ℕ) → shocked * n ≤ j → get_or list j (pos 0) ≡ pos 0

  pub figures-none : UpTo 0 (replicate (shocked * currencies) (pos 0))
  figures-none = record {
    rows = rows_none (pos 0) figure shocked (shocked * currencies) _ (length-replicate (shocked * currencies) (pos 0));
    rest = λ j _.
        ⊎_elim (λ (l : j < shocked * currencies). get_or-replicate (shocked * currencies) j (pos 0) (pos 0) l)
        (λ (l : shocked * currencies ≤ j). get_or-eq_default (replicate (shocked * currencies) (pos 0)) (pos 0) {n = j} l)
        (lt-or-ge j (shocked * currencies));
  }

  pub figures-all : {list : List ℤ} → UpTo currencies list → list ≡ changes_of currencies f
  unfolding changes_of
  figures-all {list} u =
      rows_all (pos 0) figure shocked (shocked * currencies) currencies list refl u.rows
      ∙ tabulate-ext _ _ (shocked * currencies) (λ j _. ap₂ f (add-one (j / shocked)) (add-one (j % shocked)))

  module _ {n : ℕ} {list : List ℤ} (h : n < currencies) (u : UpTo n list) where
    -- the currency's six figures written in their place
    pub figures-more : UpTo (n + 1) (with_figures f n list)
    figures-more = record {
      rows = rows_next (pos 0) figure shocked (shocked * currencies) n list _ (omega arith) (sym (tabulate-from (f (n + 1)) 1 shocked)) u.rows;
      rest = λ j l.
          let place : shocked * n + (shocked + (j - (shocked * n + shocked))) ≡ j = omega arith in
          let six = tabulate_from (f (n + 1)) 1 shocked in
          let as_it_was = splice-after (shocked * n) shocked list six (j - (shocked * n + shocked)) (pos 0) (tabulate_from-length (f (n + 1)) 1 shocked) (omega (arith, u.rows.long)) in
          (rw place at as_it_was) ∙ u.rest j (omega arith);
    }

    -- nothing written, where there is nothing
    pub figures-skip : ((i : ℕ) → 1 ≤ i → i ≤ shocked → f (n + 1) i ≡ pos 0) → UpTo (n + 1) list
    figures-skip nil = record {
      rows = record {
        long = u.rows.long;
        filled = λ j o. ⊎_elim (u.rows.filled j) (λ l. u.rest j l ∙ sym (here j l o)) (lt-or-ge j (shocked * n));
      };
      rest = λ j l. u.rest j (omega arith);
    }
      where
        here : (j : ℕ) → shocked * n ≤ j → j < shocked * (n + 1) → figure (j / shocked) (j % shocked) ≡ pos 0
        here j l o =
            let currency : j / shocked ≡ n = omega arith in
            rw currency (nil (j % shocked + 1) (omega arith) (omega arith))
