use Rattle.std.proofs.Common.{chars, sym, ◌∙◌}
use Rattle.wax_program.proofs.Opens.{ahead_after, ahead_inside}
use Rattle.wax_program.proofs.onward.Ahead.below.Goals as goal

pub returns-then-is_empty : goal.returns-then-is_empty
returns-then-is_empty c =
    ahead_after (chars c.args.folder.now) c.last_name.result.now c.last_name.ensures.name
    (sym c.is_empty.ensures ∙ c.if-is_empty.true)

pub returns : goal.returns
returns c =
    ahead_inside (chars c.args.folder.now) c.last_name.result.now c.last_name.utf8 c.last_name.ensures.name
    (sym c.is_empty.ensures ∙ c.if-is_empty.false)
