use Rattle.std.proofs.Common.{Some, refl, ◌∙◌, ap, arith}
use Rattle.wax_program.proofs.Lists.{any_to_end}
use Rattle.wax_program.proofs.loops.place_of_all.Goals as goal

pub returns-then-repeats_any-clause-all : goal.returns-then-repeats_any-clause-all
returns-then-repeats_any-clause-all c =
    any_to_end c.args.program.now.0 _
    (c.read.ensures.instruction ∙ ap (λ i. Some i) (c.if-repeats_any.ensures refl))
    (omega (arith, c.size-last.ensures.size, c.if-size-eq0.false, c.size.ensures.size))
