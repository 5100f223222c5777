use Rattle.std.proofs.Common.{◌≤◌, ℕ, List, drop, length, arith, rules}
use Rattle.wax_capture.specs.Pieces.{forms_of}
use Rattle.wax_capture.proofs.{Choosing.none_at_all, Trying.none_passed}
use Rattle.wax_capture.proofs.trial.may_begin.Goals as goal

pub returns : goal.returns
returns c = λ no ps.
    let p = c.args.piece.now in
    let s : List ℕ = drop c.args.at c.args.text.now in
    let to : ℕ = c.next_form.result in
    let all : length (forms_of p.ways) ≤ to = search rules in
    none_at_all p ps s to all
    (none_passed p ps s 0 to (λ j m lt. absurd (omega (arith, lt))) c.next_form.ensures.passed)
