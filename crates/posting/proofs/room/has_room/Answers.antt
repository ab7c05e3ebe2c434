-- Every sum beside its addition: the test of the pairs is 14's.
use Prim.Native.Nat.{ℕ, ◌+◌, ◌≤◌, ◌<◌}
use Rattle.std.proofs.Common.{rules}
use Rattle.std.proofs.lemmas.Iterator.{YieldsList-from_slice, YieldsList-from_zip, cases_from_all}
use Rattle.std.proofs.lemmas.Iterator.Adapters.{serves_from_places}
use Rattle.paper.specs.Scales.{billion}
use Rattle.posting.proofs.Limit.{pair-small, room-by}
use Rattle.posting.proofs.room.has_room.Goals as goal

pub all-requires-clause-callable : goal.all-requires-clause-callable
all-requires-clause-callable c =
    let sums = c.args.sums.now in
    let more = c.args.more.now in
    serves_from_places (YieldsList-from_zip (YieldsList-from_slice sums (search rules)) (YieldsList-from_slice more (search rules)))
    (λ x q r. search rules) (λ x k l e. let small = pair-small sums more c.requires.more_len c.requires.at_most c.requires.at_most_2 _ k l e in search rules)

pub returns : goal.returns
returns c =
    let sums = c.args.sums.now in
    let more = c.args.more.now in
    room-by sums more c.requires.more_len _
    (cases_from_all c.all.new.self _ _ (λ (p : ℕ × ℕ). p.0 + p.1 ≤ billion) (λ (p : ℕ × ℕ). billion < p.0 + p.1) c.all.ensures.ran
    (YieldsList-from_zip (YieldsList-from_slice sums (search rules)) (YieldsList-from_slice more (search rules)))
    (λ x q k. search rules) (λ x q k. search rules))
