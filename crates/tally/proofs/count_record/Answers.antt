-- In its currency's part of the counts, or not at all.
use native.Mathlib.Omega.{arith}
use Prim.Native.Nat.{◌+◌, ◌*◌, ◌-◌, ◌≤◌}
use mathlib.Core.Bool.{true, ◌&&◌}
use mathlib.Core.Path.{◌≡◌, sym, ap, ◌∙◌}
use lib.Dec.{leb}
use lib.IntN.{ℤ, pos, nat_abs}
use mathlib.Core.List.{List}
use Rattle.std.proofs.lemmas.Bool.Decides.{nat_tests}
use Rattle.laws.proofs.Sections.{length-section, section-all}
use Rattle.paper.specs.Records.{currencies, kind_count}
use Rattle.paper.specs.TurnedDown.{longest_book}
use Rattle.arrays.specs.Arrays.{put_back}
use Rattle.kinds.specs.Kind.{kind_number}
use Rattle.kinds.proofs.Numbers.{unknown_length}
use Rattle.tally.proofs.Counting.{kind-of-ten, no-kind-counted, no-currency-counted, one-counted}
use Rattle.tally.proofs.count_record.Goals as goal
use Rattle.tally.proofs.count_record.Goals.{After-contains}

-- a currency of the book's, where the test says so
in-range : (c : After-contains) → c.contains.result ≡ (leb 1 c.args.currency && leb c.args.currency currencies)
in-range c = c.contains.ensures.value ∙ rw (c.new.ensures.start, c.new.ensures.end, c.new.ensures.exhausted) (grind (arith, nat_tests))

some : (c : After-contains) → c.contains.result ≡ true → (1 ≤ c.args.currency) × (c.args.currency ≤ currencies)
some c y = grind (arith, nat_tests, in-range c, y)

pub returns-in_default : goal.returns-in_default
returns-in_default c = λ book ps at first second e. e ∙ no-kind-counted book ps at _ first (unknown_length _ c.in_default.ensures.1)

pub returns-then-not-contains : goal.returns-then-not-contains
returns-then-not-contains c =
    let t = in-range (goal.at.returns-then-not-contains c).After-contains in
    λ book ps at first second e. e ∙ no-currency-counted book ps at _ second (λ l h. grind (arith, nat_tests, l, h, t, c.if-not-contains.true))

pub count_kind-requires : goal.count_kind-requires
count_kind-requires c =
    let there = some (goal.at.count_kind-requires c).After-contains c.if-not-contains.false in
    let ten : kind_count * (c.args.currency - 1) + kind_count - kind_count * (c.args.currency - 1) ≡ kind_count = omega arith in
    rw ten record {
      ten = length-section (kind_count * (c.args.currency - 1)) kind_count c.args.counts.now (omega (arith, there.0, there.1));
      few = section-all (λ (z : ℤ). nat_abs z ≤ longest_book) (pos 0) c.args.counts.now (omega (arith, there.0, there.1)) c.requires.1 (kind_count * (c.args.currency - 1)) kind_count;
    }

pub returns : goal.returns
returns c =
    λ book ps at first second e.
    let ten : kind_count * (c.args.currency - 1) + kind_count - kind_count * (c.args.currency - 1) ≡ kind_count = omega arith in
    let there = some (goal.at.returns c).After-contains c.if-not-contains.false in
    let filled = rw ten at c.count_kind.ensures in
    rw ten (ap (λ (part : List ℤ). put_back kind_count c.args.currency c.args.counts.now part) filled
    ∙ rw e (one-counted book ps at c.args.currency (kind_number c.in-Ok.kind) (first ∙ sym c.in-Ok.ensures) second there.0 there.1 (kind-of-ten c.in-Ok.kind).0))
