use Rattle.std.proofs.Common.{◌≡◌, ◌++◌, ◌∷◌, [], rules, subst, sym}
use Rattle.std.specs.Vec.Iter.{into_iter_items}
use Rattle.wax_set.specs.Patterns.{SpellEach}
use Rattle.wax_set.proofs.Patterns.{one_more, one_taken, refused_next}
use Rattle.wax_set.proofs.pattern.tokens_of.Goals as goal

pub loop-pattern-preserved : goal.loop-pattern-preserved
loop-pattern-preserved g c =
    let spells = g.P.Pattern.spells in
    let before = c.loop-pattern.yielded in
    let had = c.loop-pattern.tokens.items in
    let pattern = c.in-Some.pattern in
    let left = into_iter_items c.loop-pattern.pattern-iterator in
    let rest = into_iter_items c.next.new.self in
    let taken : left ≡ pattern ∷ rest = search rules in
    let grown : c.push.new.self.items ≡ had ++ c.in-Ok.checked ∷ [] = search rules in
    record {
      each = subst (λ z. SpellEach spells (before ++ pattern ∷ []) z) (sym grown)
          (one_more spells before had pattern c.in-Ok.checked c.loop-pattern.invariant.each c.in-Ok.ensures);
      joined = one_taken before pattern rest left c.args.patterns.items taken c.loop-pattern.invariant.joined;
      count = search rules;
    }

pub returns-in-Err : goal.returns-in-Err
returns-in-Err g c =
    let left = into_iter_items c.loop-pattern.pattern-iterator in
    let rest = into_iter_items c.next.new.self in
    let taken : left ≡ c.in-Some.pattern ∷ rest = search rules in
    refused_next g.P.Pattern.spells g.P.Pattern.refuses c.args.patterns.items c.loop-pattern.yielded
    c.loop-pattern.tokens.items
    c.in-Some.pattern left rest c.in-Err.error c.loop-pattern.invariant.each c.loop-pattern.invariant.joined
    taken c.in-Err.ensures
