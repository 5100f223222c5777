use Rattle.std.proofs.{Common.{◌∙◌, ap, sym, fold}, lemmas.Iterator.YieldsList-from_chars}
use Rattle.std.proofs.{lemmas.Iterator.Consumers.YieldsList-end, lemmas.List.map-id}
use Rattle.wax_components.specs.inner.Dots.{dot_after}
use Rattle.wax_components.proofs.parts.dots_after.Goals as goal

pub returns : goal.returns
returns c =
    let all = YieldsList-end (YieldsList-from_chars c.args.text.now c.utf8.text cc) c.loop-c.yielded _
    c.loop-c.yielded_by _ _ c.in-None.is c.next.ensures.steps in
    c.loop-c.invariant ∙ ap (fold dot_after c.args.before) (sym (map-id c.loop-c.yielded) ∙ all.0)
