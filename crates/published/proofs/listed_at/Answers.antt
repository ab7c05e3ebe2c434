-- `listed_at`: the list of the edition that the body names.
use mathlib.Core.Path.{◌≡◌, refl, sym, ap, ◌∙◌}
use Rattle.std.proofs.Common.{rules}
use Rattle.std.specs.Prelude.{Err}
use Rattle.paper.specs.declared.Refusal.TheVariants.{CodeNotListed}
use Rattle.paper.specs.Refusals.{fault, result_of}
use Rattle.paper.specs.Published.{edition1, edition2, list_of}
use Rattle.paper.specs.TurnedDown.{unknown_edition}
use Rattle.paper.specs.Fields.{listed_at}
use Rattle.std.specs.Option.{ok_or}
use Rattle.fields.specs.Answers.{as_it_is}
use Rattle.published.proofs.Lines.{looked, no-edition}
use Rattle.published.proofs.listed_at.Goals as goal
use Rattle.published.proofs.listed_at.Goals.{in-1, in-2}

pub returns-in_default : goal.returns-in_default
returns-in_default c =
    let first : c.byte_at.result ≡ 1 → ⊥ = search rules in
    let second : c.byte_at.result ≡ 2 → ⊥ = search rules in
    let read = c.byte_at.ensures in
    ap Err c.record_fault.ensures ∙ sym (ap (result_of as_it_is) (no-edition _ _ (λ e. first (read ∙ e)) (λ e. second (read ∙ e))))

pub returns : goal.returns
unfolding unknown_edition list_of
returns c =
    let told : result_of as_it_is (listed_at c.args.body.now c.args.at) ≡ ok_or c.match-byte_at.listed (fault CodeNotListed 0) =
    elim c.match-byte_at.branch [
      | in-1 w ↦ rw (w.listed-is, w.edition_1-listed.ensures, c.three_at-code.ensures) (looked _ _ 1 edition1 (sym c.byte_at.ensures ∙ w.in-1.is) refl refl)
      | in-2 w ↦ rw (w.listed-is, w.edition_2-listed.ensures, c.three_at-code.ensures) (looked _ _ 2 edition2 (sym c.byte_at.ensures ∙ w.in-2.is) refl refl)
    ] in
    c.ok_or.ensures.value ∙ ap (ok_or c.match-byte_at.listed) c.record_fault-2.ensures ∙ sym told
