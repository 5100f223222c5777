use Rattle.std.proofs.Common.{chars}
use Rattle.wax.proofs.Parts.{built_kept}
use Rattle.wax.proofs.glob.Glob.new.Goals as goal

pub compiled-requires : goal.compiled-requires
compiled-requires c =
    let spells = c.in-Ok.ensures.spells in
    built_kept (chars c.args.expression.now) c.in-Ok.checked.token spells.0 spells.1
