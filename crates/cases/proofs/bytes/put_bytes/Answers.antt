-- What is left after a byte and its number.
use Rattle.std.proofs.Common.{rules}
use Rattle.cases.proofs.Rest.{rest_after, rest_of_rest}
use Rattle.cases.proofs.bytes.put_bytes.Goals as goal

pub loop-rest-preserved : goal.loop-rest-preserved
loop-rest-preserved c =
    let text = c.args.text.now in
    let before = c.loop-rest.rest.now in
    let pair = c.in_ok-byte.after_pair.now in
    let after = c.in_ok-count.after.now in
    let byte = rest_of_rest text before pair c.loop-rest.invariant.0 (rest_after before pair 2 (search rules) (search rules)) in
    (rest_of_rest text after _ (rest_of_rest text pair after byte (search rules)) (search rules), search rules)
