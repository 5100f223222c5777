use Rattle.std.proofs.Common.{◌≤◌, arith, inl, length, subst}
use Rattle.wax_compare.specs.{Limit.ReachesMore, declared.wanted.Comparison.TheVariants.Nothing}
use Rattle.wax_compare.proofs.Exceeding.{reaches_more}
use Rattle.wax_compare.proofs.ReadingBack.{answer_none, few_pairs, same_limit, same_wanted}
use Rattle.wax_compare.proofs.finding.run.Goals as goal

pub returns-then-at-len-clause-answer : goal.returns-then-at-len-clause-answer
returns-then-at-len-clause-answer c = λ t h.
    answer_none c.args.first.now.0 c.args.second.now.0 c.loop-at.search
    c.loop-at.pairs.reached.items c.loop-at.at c.loop-at.invariant.held
    (omega (arith, c.if-at-len.true, c.len.ensures, c.loop-at.pairs.reached.ok.0)) t
    (same_wanted c.args.search.now c.loop-at.search c.args.first.now.0 c.args.second.now.0 t
    c.loop-at.invariant.same h)

pub returns-then-at-len-clause-limit : goal.returns-then-at-len-clause-limit
returns-then-at-len-clause-limit c =
    let code = c.args.first.now.0 in
    let other = c.args.second.now.0 in
    let all : length c.loop-at.pairs.reached.items ≤ c.loop-at.at =
    omega (arith, c.if-at-len.true, c.len.ensures, c.loop-at.pairs.reached.ok.0) in
    same_limit c.args.search.now c.loop-at.search code other c.args.most_states Nothing
    c.loop-at.invariant.same
    (few_pairs code other c.loop-at.search c.loop-at.pairs.reached.items c.loop-at.at c.loop-at.invariant.held
    c.args.most_states all (omega (arith, all, c.loop-at-test.true)))

pub returns-then-len-most_states-clause-answer : goal.returns-then-len-most_states-clause-answer
returns-then-len-most_states-clause-answer c = λ t h.
    answer_none c.args.first.now.0 c.args.second.now.0 c.loop-at.search
    c.loop-at.pairs.reached.items c.loop-at.at c.loop-at.invariant.held
    (omega (
      arith,
      c.if-len-most_states.true,
      c.len-2.ensures,
      c.loop-at.pairs.reached.ok.0,
      c.loop-at-test.false,
    )) t
    (same_wanted c.args.search.now c.loop-at.search c.args.first.now.0 c.args.second.now.0 t
    c.loop-at.invariant.same h)

pub returns-then-len-most_states-clause-limit : goal.returns-then-len-most_states-clause-limit
returns-then-len-most_states-clause-limit c =
    let code = c.args.first.now.0 in
    let other = c.args.second.now.0 in
    let few : length c.loop-at.pairs.reached.items ≤ c.args.most_states =
    omega (arith, c.if-len-most_states.true, c.len-2.ensures, c.loop-at.pairs.reached.ok.0) in
    same_limit c.args.search.now c.loop-at.search code other c.args.most_states Nothing
    c.loop-at.invariant.same
    (few_pairs code other c.loop-at.search c.loop-at.pairs.reached.items c.loop-at.at c.loop-at.invariant.held
    c.args.most_states (omega (arith, few, c.loop-at-test.false)) few)

pub returns-clause-limit : goal.returns-clause-limit
returns-clause-limit c =
    let code = c.args.first.now.0 in
    let other = c.args.second.now.0 in
    let s = c.loop-at.search in
    subst (λ k. ReachesMore code other k c.args.most_states) c.loop-at.invariant.same.texts
    (reaches_more code other s c.loop-at.pairs.reached.items c.loop-at.at c.loop-at.invariant.held
    c.args.most_states (inl (omega (
      arith,
      c.if-len-most_states.false,
      c.len-2.ensures,
      c.loop-at.pairs.reached.ok.0,
    ))))
