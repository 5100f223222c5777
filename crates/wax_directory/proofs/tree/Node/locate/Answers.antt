use Rattle.std.proofs.Common.{map, Ok, ap, ◌∙◌}
use Rattle.wax_directory.specs.{inner.Places.reached_at, Nodes.reached}
use Rattle.wax_directory.proofs.Finding.{step_reached, step_placed}
use Rattle.wax_directory.proofs.tree.Node.locate.Goals as goal

pub loop-name-preserved : goal.loop-name-preserved
loop-name-preserved c = (
  step_reached c.args.names.now c.loop-name.name-index _ c.loop-name.node.now c.in-Some-child.inner.now
      c.in-Some.place (reached (map (λ x. x.now) c.args.names.now) c.args.self.now) c.loop-name-test.true
      c.loop-name.invariant.0
      (c.in_ok-place.ensures.reaches ∙ ap (λ o. reached_at c.loop-name.node.now (Ok o)) c.in-Some.is)
      c.in-Some-child.ensures,
  step_placed c.loop-name.places.items c.push.new.self.items c.args.self.now c.loop-name.node.now
      c.in-Some-child.inner.now c.in-Some.place c.in-Ok.ensures.items c.loop-name.invariant.1
      c.in-Some-child.ensures,
)
