-- `take`: the five parts of the currency are lent, and come back.
use Rattle.arrays.specs.Arrays.{arrays_as}
use Rattle.kinds.specs.Kind.{kind_number}
use Rattle.lending.specs.Working.{arrays_in}
use Rattle.arrays.proofs.Bounds.{parts-hold}
use Rattle.lending.proofs.Parts.{lent-hold, lent-taken}
use Rattle.lending.proofs.Working.take.Goals as goal

pub take_body-requires : goal.take_body-requires
take_body-requires c =
    let found = arrays_in c.args.self.now in
    record {
      body = c.requires.body.0;
      parts_hold = lent-hold c.args.currency found c.has_curve.ensures (parts-hold _ found c.args.currency c.requires.body.1 c.requires.body.2 c.requires.holding);
    }

pub returns-clause-taken : goal.returns-clause-taken
returns-clause-taken c =
    let l = c.take_body.new in
    lent-taken c.args.curved (arrays_in c.args.self.now) c.args.currency (kind_number c.args.kind) c.args.body.now c.requires.body.0.first c.has_curve.ensures
    {p' = arrays_as l.section l.rates l.addons l.sizes l.options} c.take_body.ensures
