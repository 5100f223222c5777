use Rattle.std.proofs.Common.{◌∙◌}
use Rattle.wax_program.proofs.Advancing.{round_accepts, round_ends}
use Rattle.wax_program.proofs.rounds.finish.Goals as goal

pub returns-clause-decides : goal.returns-clause-decides
returns-clause-decides g c =
    let old = (g.R.Sets.position c.args.sets.now).pending in
    let p = g.R.Sets.position c.advance.new.sets in
    let sized = c.advance.ensures.size ∙ c.requires.size in (
      (λ h. round_accepts c.args.program.now.0 47 old p sized c.advance.ensures.done c.advance.ensures.round
          (c.ends.ensures.0 h)),
      (λ h. c.ends.ensures.1
          (round_ends c.args.program.now.0 47 old p sized c.advance.ensures.done c.advance.ensures.round h)),
    )
