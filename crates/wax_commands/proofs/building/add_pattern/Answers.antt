use Rattle.wax_commands.proofs.Adding.{pattern_added}
use Rattle.wax_commands.proofs.building.add_pattern.Goals as goal

pub returns-in_ok-push-in-Ok-clause-ok : goal.returns-in_ok-push-in-Ok-clause-ok
returns-in_ok-push-in-Ok-clause-ok c =
    pattern_added _ _ _ c.in-Ok.filter c.in_ok-push-in-Ok.ensures.items c.args.expression.now c.in-Ok.ensures
