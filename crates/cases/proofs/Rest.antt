-- What is left of what is left of a text.
use Rattle.std.proofs.Common.{◌≡◌, ℕ, ◌+◌, ◌-◌, List, length, drop, ap, ◌∙◌, arith}
use Rattle.std.proofs.lemmas.List.{drop-drop}
use Rattle.cases.specs.Rest.{IsRest}

-- after n of its elements
pub rest_after : (text rest : List ℕ) (n : ℕ) → length rest + n ≡ length text → rest ≡ drop n text → IsRest text rest
rest_after text rest n lengths is =
    let count : n ≡ length text - length rest = omega arith in
    (omega arith, is ∙ ap (λ k. drop k text) count)

pub rest_of_rest : (text middle rest : List ℕ) → IsRest text middle → IsRest middle rest → IsRest text rest
rest_of_rest text middle rest before after =
    let first = length text - length middle in
    let then = length middle - length rest in
    let all : first + then ≡ length text - length rest = omega arith in
    (omega arith, after.1 ∙ ap (drop then) before.1 ∙ drop-drop then first text ∙ ap (λ k. drop k text) all)
