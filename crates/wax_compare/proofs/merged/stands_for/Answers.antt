use Rattle.std.proofs.Common.{true≢false, length, sym, ◌∙◌}
use Rattle.wax_compare.proofs.Blocks.{scalar_small}
use Rattle.wax_compare.proofs.Merging.{agree_stands, alike_before, other_slashes, same_slashes}
use Rattle.wax_compare.proofs.merged.stands_for.Goals as goal

pub returns-then-c-letter : goal.returns-then-c-letter
returns-then-c-letter c = (
  (λ e. absurd (true≢false (sym e))),
  (λ h. absurd (other_slashes c.args.c c.args.letter c.if-c-letter.true h.slash)),
)

pub returns-then-are_alike : goal.returns-then-are_alike
returns-then-are_alike c = (
  (λ h. agree_stands c.args.first.now.0 c.args.second.now.0 c.args.c c.args.letter
      (scalar_small c.args.c c.ranges.c.0) (scalar_small c.args.letter c.ranges.letter.0)
      (same_slashes c.args.c c.args.letter c.if-c-letter.false) (c.are_alike.ensures.0 c.if-are_alike.true)
      (c.are_alike-then-are_alike.ensures.0 h)),
  (λ h. c.are_alike-then-are_alike.ensures.1
      (alike_before c.args.second.now.0 c.args.c c.args.letter (length c.args.second.now.0) h.second)),
)

pub returns-else-are_alike : goal.returns-else-are_alike
returns-else-are_alike c = (
  (λ e. absurd (true≢false (sym e ∙ c.if-are_alike.false))),
  (λ h. c.are_alike.ensures.1
      (alike_before c.args.first.now.0 c.args.c c.args.letter (length c.args.first.now.0) h.first)),
)
