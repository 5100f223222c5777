use Rattle.std.proofs.Common.{◌∙◌}
use Rattle.wax_walk.specs.Candidates.{in_characters}
use Rattle.wax_exclude.proofs.Numbering.{numbers_decide}
use Rattle.wax_exclude.proofs.numbers.NumberedLines.residue_once.Goals as goal

pub returns-clause-says : goal.returns-clause-says
returns-clause-says c = λ lines knows.
    c.residue_by.ensures ∙ numbers_decide lines c.args.self.now (in_characters c.args.candidate)
    c.in_ok-last.last knows (c.in_ok-last.ensures.last lines knows)
