use Rattle.std.proofs.{Common.{◌≡◌, ◌++◌, ◌∷◌, [], arith, rules, subst, sym}, lemmas.Grind.common_steps}
use Rattle.std.specs.Vec.Iter.{into_iter_items}
use Rattle.wax_exclude.specs.Excluded.{excluded_mark}
use Rattle.wax.proofs.Filters.{Excluded, any_excluded, first_refused, one_more_excluded, pattern_taken}
use Rattle.wax.proofs.exclusions.FilterAnyExclusionFilterAnyExt.any.Goals as goal

pub loop-pattern-preserved : goal.loop-pattern-preserved
loop-pattern-preserved g c =
    let spells = g.P.Pattern.spells in
    let before = c.loop-pattern.yielded in
    let had = c.loop-pattern.exclusions.items in
    let pattern = c.in-Some.pattern in
    let left = into_iter_items c.loop-pattern.pattern-iterator in
    let rest = into_iter_items c.next.new.self in
    let taken : left ≡ pattern ∷ rest = search rules in
    let grown : c.push.new.self.items ≡ had ++ c.in-Ok.exclusion ∷ [] = search rules in
    record {
      each = subst (λ z. Excluded spells excluded_mark (before ++ pattern ∷ []) z) (sym grown)
          (one_more_excluded spells excluded_mark before had pattern c.in-Ok.exclusion
          c.loop-pattern.invariant.each c.in-Ok.ensures);
      joined =
          pattern_taken before pattern rest left c.args.patterns.items taken c.loop-pattern.invariant.joined;
      count = search rules;
    }

pub returns-in-Err : goal.returns-in-Err
returns-in-Err g c =
    let left = into_iter_items c.loop-pattern.pattern-iterator in
    let rest = into_iter_items c.next.new.self in
    let taken : left ≡ c.in-Some.pattern ∷ rest = search rules in
    first_refused g.P.Pattern.spells excluded_mark g.P.Pattern.refuses c.args.patterns.items
    c.loop-pattern.yielded
    c.loop-pattern.exclusions.items c.in-Some.pattern left rest c.in-Err.error c.loop-pattern.invariant.each
    c.loop-pattern.invariant.joined taken c.in-Err.ensures

pub returns : goal.returns
returns g c =
    let spells = g.P.Pattern.spells in
    let made = c.loop-pattern.exclusions.items in
    let all : c.loop-pattern.yielded ≡ c.args.patterns.items = grind (arith, common_steps) in
    let each : Excluded spells excluded_mark c.args.patterns.items made =
    subst (λ patterns. Excluded spells excluded_mark patterns made) all c.loop-pattern.invariant.each in
    any_excluded spells excluded_mark c.args.patterns.items made _ each c.new.ensures
