use Rattle.std.proofs.Common.{Some, ap, sym, ◌∙◌}
use Rattle.wax_c.proofs.CutEach.{length-cut_each}
use Rattle.wax_c.proofs.sets.open_set.Goals as goal

pub returns-in-Ok : goal.returns-in-Ok
returns-in-Ok c = (
  c.in-Ok.held.value.matcher,
  c.of-in-Ok.ensures ∙ ap (λ held. Some held.matcher) c.of.ensures,
  c.in-Ok.ensures,
  sym (length-cut_each c.args.patterns.now c.args.lengths.now),
)
