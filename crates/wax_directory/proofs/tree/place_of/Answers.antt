use Rattle.std.proofs.Common.{sym, ◌∙◌}
use Rattle.wax_directory.proofs.Finding.{named_here}
use Rattle.wax_directory.proofs.tree.place_of.Goals as goal

pub returns-then-is_named : goal.returns-then-is_named
returns-then-is_named c =
    named_here c.args.name.now c.args.items.now c.loop-place.place c.index-items-place.result
    c.loop-place-test.true c.index-items-place.is c.loop-place.invariant
    (sym c.is_named.ensures ∙ c.if-is_named.true)
