use Rattle.std.proofs.Common.{◌≡◌, sym, ◌∙◌, subst, true≢false, rules}
use Rattle.wax_program.specs.Machine.{PassesTest}
use Rattle.wax_lengths.proofs.Runs.{begins_at}
use Rattle.wax_lengths.proofs.lengths.may_pass.Goals as goal

pub returns-then-at-len : goal.returns-then-at-len
returns-then-at-len c = λ no n d x e passes.
    let same : d ≡ c.char_at.result =
    begins_at c.args.text.now c.args.at c.char_at.result n d x (search rules) c.char_at.ensures e in
    absurd (true≢false (sym (c.passes.ensures.1 (subst (PassesTest c.args.test.now) same passes)) ∙ no))
