use Rattle.std.proofs.Common.{IsTrue, chars, ap, rules, subst, sym}
use Rattle.wax_program.specs.{Last.ReadsLast, Machine.Accepts}
use Rattle.wax_prefilter.proofs.Names.{accepts_name}
use Rattle.wax_prefilter.proofs.compiled.CompiledTokens.may_match.Goals as goal

pub returns-then-may_match_quickly : goal.returns-then-may_match_quickly
returns-then-may_match_quickly c = λ accepted.
    let code = c.self.inside.program.0 in
    let same = ap (λ p. p.0) c.self.view_is in
    let here : Accepts code 0 (chars c.args.text.now) =
    subst (λ z. Accepts z 0 (chars c.args.text.now)) (sym same) accepted in
    let known : IsTrue c.reads_last.result = search rules in
    let last : ReadsLast code = c.reads_last.ensures.last code c.self.invariant.1 known in
    let name = accepts_name code last (chars c.args.text.now) (chars c.last_name.result.now)
    c.last_name.ensures.name here in
    c.may_match-then-may_match_quickly.ensures (c.self.invariant.0 (chars c.last_name.result.now) name)
