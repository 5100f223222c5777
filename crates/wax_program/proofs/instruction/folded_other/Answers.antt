use Rattle.std.proofs.Common.{rules}
use Rattle.wax_program.proofs.Folded.{folded_by_itself, slash_of_none}
use Rattle.wax_program.proofs.instruction.folded_other.Goals as goal

pub returns-then-d-ne47 : goal.returns-then-d-ne47
returns-then-d-ne47 c =
    let same = folded_by_itself c.args.d c.ranges.d.0 c.if-d-ne47.true in (
      (λ h. same.0 (c.folds_to.ensures.0 h)),
      (λ h. c.folds_to.ensures.1 (same.1 h)),
    )

pub returns-else-d-ne47 : goal.returns-else-d-ne47
returns-else-d-ne47 c = (
  (λ h. absurd (let e = c.if-d-ne47.false in search (rules, e, h))),
  (λ h. absurd (slash_of_none c.args.d c.if-d-ne47.false h)),
)
