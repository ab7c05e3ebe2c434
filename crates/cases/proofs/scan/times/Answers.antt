-- What is left after the mark and the digits.
use Rattle.std.proofs.Common.{rules}
use Rattle.cases.proofs.Rest.{rest_after, rest_of_rest}
use Rattle.cases.proofs.scan.times.Goals as goal

pub returns : goal.returns
returns c =
    let number = c.in-Some.number.now in
    rest_of_rest c.args.text.now number _ (rest_after _ number 1 (search rules) (search rules)) (rest_after number _ c.count-length.result c.split_at.ensures.back_len c.split_at.ensures.back)
