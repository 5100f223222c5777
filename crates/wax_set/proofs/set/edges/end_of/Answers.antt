use Rattle.std.proofs.{Common.{◌≡◌, ◌-◌, Some, chars, length, rules, slice_get}, lemmas.Option.IfSome_then}
use Rattle.wax_set.proofs.Edges.{last_only}
use Rattle.wax_set.proofs.set.edges.end_of.Goals as goal

pub returns-in-Some : goal.returns-in-Some
returns-in-Some c =
    let tokens = c.concatenation.result.now in
    let e : slice_get tokens (length tokens - 1) ≡ Some c.in-Some.last.now = search rules in
    IfSome_then c.only_text.result c.only_text.ensures (λ only one.
    last_only c.args.token.now tokens c.in-Some.last.now (chars only.now) c.concatenation.ensures e one)
