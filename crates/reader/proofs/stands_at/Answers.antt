-- `stands_at`: the end, no such kind, a body cut short, or a whole record.
use mathlib.Core.Path.{◌∙◌}
use native.Mathlib.Numerals.{add-one}
use native.Mathlib.Omega.{arith}
use Rattle.reader.proofs.Places.{stands-end, stands-unknown, stands-cut, stands-whole}
use Rattle.reader.proofs.stands_at.Goals as goal

pub returns-in_err-byte : goal.returns-in_err-byte
returns-in_err-byte c = c.from_residual.ensures ∙ stands-end _ _ (omega (arith, c.in_err-byte.ensures.lookup.3))

pub returns-in-Err : goal.returns-in-Err
returns-in-Err c = let here = c.in_ok-byte.ensures.lookup.3 in stands-unknown _ _ (here.1 0) here.0 c.in-Err.ensures

pub returns-then-book-next : goal.returns-then-book-next
returns-then-book-next c =
    let here = c.in_ok-byte.ensures.lookup.3 in
    let length-is = c.body_length-bytes.ensures.0 in
    stands-cut _ _ c.in-Ok.kind (c.in-Ok.ensures ∙ here.1 0) here.0 (omega (arith, length-is))

pub returns : goal.returns
returns c =
    let here = c.in_ok-byte.ensures.lookup.3 in
    let length-is = c.body_length-bytes.ensures.0 in
    rw (length-is, add-one) (stands-whole _ _ c.in-Ok.kind (c.in-Ok.ensures ∙ here.1 0) here.0 (omega (arith, length-is)))
