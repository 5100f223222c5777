use Rattle.std.proofs.Common.{◌≡◌, ◌∙◌, ◌⊎◌, ap, cond, subst, sym}
use Rattle.wax_match.specs.Numbered.{MeansNumbered}
use Rattle.wax_token.specs.Words.{members}
use Rattle.wax_exclude.proofs.{ListLengths.alternative_counted, NumberedLines.alternative_added}
use Rattle.wax_exclude.proofs.numbers.add_alternatives.Goals.{then-ends_wild, else-ends_wild}
use Rattle.wax_exclude.specs.{Covers.ends_wild, inner.Numbers.MatchesBy}
use Rattle.wax_exclude.proofs.numbers.add_alternatives.Goals as goal

pub loop-pattern-preserved : goal.loop-pattern-preserved
loop-pattern-preserved c =
    let ts = c.args.alternatives.now in
    let t = c.pattern-item.result in
    let own = c.args.own in
    let above = c.args.above in
    let same = c.token-pattern.ensures in
    let number : c.if-ends_wild.number ≡ cond (ends_wild (members t)) above own =
    subst (λ u. c.if-ends_wild.number ≡ cond (ends_wild (members u)) above own) same
    (elim c.if-ends_wild.branch [
      | then-ends_wild w ↦ w.number-is
          ∙ sym (ap (λ b. cond b above own) (sym c.ends_wild.ensures ∙ w.if-ends_wild.true))
      | else-ends_wild w ↦ w.number-is
          ∙ sym (ap (λ b. cond b above own) (sym c.ends_wild.ensures ∙ w.if-ends_wild.false))
    ]) in
    record {
      completes = alternative_added (λ k s. MeansNumbered c.args.patterns.now.items k s
          ⊎ MatchesBy own above ts k s) own above c.loop-pattern.pattern-index ts t
          c.loop-pattern.patterns.items c.push.new.self.items _ c.loop-pattern-test.true c.pattern-item.is
          c.in_ok-push.ensures.items number same c.loop-pattern.invariant.completes;
      length = alternative_counted ts c.loop-pattern.patterns.items c.push.new.self.items
          c.args.patterns.now.items c.loop-pattern.pattern-index t _ c.loop-pattern-test.true
          c.pattern-item.is c.in_ok-push.ensures.items same c.loop-pattern.invariant.length;
    }
