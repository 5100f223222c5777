use Rattle.std.proofs.Common.{chars}
use Rattle.wax_test_uses.proofs.Meanings.{respects}
use Rattle.wax_test_uses.proofs.components.glob_of_component.Goals as goal

pub returns-clause-respects : goal.returns-clause-respects
returns-clause-respects c = respects (chars c.args.expression.now) c.new.result c.new.ensures.build
