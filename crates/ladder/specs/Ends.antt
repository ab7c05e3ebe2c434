-- The bucket of a term of a month up to a bucket's end: that bucket, whose end belongs to it, or the next.
use Rattle.std.specs.Prelude.{ℕ, ◌+◌, if◌then◌else◌}
use Rattle.paper.specs.Ladder.{Term, not_after}

abbrev pub by_end : (term end : Term) → ℕ → ℕ
by_end term end bucket = if not_after term end then bucket else bucket + 1
