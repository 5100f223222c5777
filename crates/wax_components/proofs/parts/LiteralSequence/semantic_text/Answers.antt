use Rattle.std.proofs.Common.{◌∙◌, sym}
use Rattle.wax_components.proofs.Texts.{one_dot, two_dots}
use Rattle.wax_components.proofs.parts.LiteralSequence.semantic_text.Goals as goal

pub returns-in-1 : goal.returns-in-1
returns-in-1 g c = one_dot c.args.self.now (sym c.dots.ensures ∙ c.in-1.is)

pub returns-in-2 : goal.returns-in-2
returns-in-2 g c = two_dots c.args.self.now (sym c.dots.ensures ∙ c.in-2.is)
