use Rattle.std.proofs.{Common.{ap, arith, length, not, refl}, lemmas.Str.chars-nil}
use Rattle.wax_match.proofs.{LeftCosts.spelt_fits, Lefts.{head_rest, left_plain, left_spelt}}
use Rattle.wax_match.proofs.encode.left.Left.new.Goals as goal

pub returns-in-Some-clause-means : goal.returns-in-Some-clause-means
returns-in-Some-clause-means c =
    left_spelt _ c.first-item.result c.args.tokens.now c.args.before
    (not c.is_empty.result) c.in-Some.ensures.means refl
    (ap not c.is_empty.ensures)
    (head_rest c.args.tokens.now c.first-item.result c.in-len1-up.len_at_least c.first-item.is)

pub returns-clause-means : goal.returns-clause-means
returns-clause-means c = left_plain _ refl refl

pub returns-in-Some-clause-cost : goal.returns-in-Some-clause-cost
returns-in-Some-clause-cost c =
    spelt_fits c.in-Some.text.now c.in-Some.gap c.first-item.result _ c.args.tokens.now c.in-Some.ensures.cost
    (head_rest c.args.tokens.now c.first-item.result c.in-len1-up.len_at_least c.first-item.is)

pub returns-clause-cost : goal.returns-clause-cost
returns-clause-cost c = omega (arith, ap length chars-nil)
