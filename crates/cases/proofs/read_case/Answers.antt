-- What is left after the mark, the label and the bytes.
use Rattle.std.proofs.Common.{◌+◌, rules}
use Rattle.cases.proofs.Rest.{rest_after, rest_of_rest}
use Rattle.cases.proofs.read_case.Goals as goal

pub returns-clause-rest : goal.returns-clause-rest
returns-clause-rest c =
    let marked = c.in_ok-marked.marked.now in
    let body = c.split_at.result.1.now in
    let line = rest_after marked body (c.in_ok-end.end + 1) c.split_at.ensures.back_len c.split_at.ensures.back in
    rest_of_rest c.args.text.now marked _ (rest_after _ marked 1 (search rules) (search rules)) (rest_of_rest marked body _ line c.in_ok-count.ensures.rest)
