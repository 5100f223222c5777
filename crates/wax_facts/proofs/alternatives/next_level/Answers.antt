use Rattle.std.proofs.Common.{◌≡◌, ◌∷◌, ◌++◌, [], List, length, arith, rules, ap, ◌∙◌, sym}
use Rattle.std.proofs.lemmas.List.{length_push}
use Rattle.std.specs.Vec.Iter.{into_iter_items}
use Rattle.wax_token.specs.{Syntax.{Tree, trees_size}, Words.trees}
use Rattle.wax_facts.specs.Alternatives.{levels, levels_each}
use Rattle.wax_facts.proofs.Levels.{branches_below, one_found, size_append, size_taken}
use Rattle.wax_facts.proofs.alternatives.next_level.Goals as goal

pub loop-token-preserved : goal.loop-token-preserved
loop-token-preserved g c =
    let left : List (Tree _) = into_iter_items c.loop-token.token-iterator in
    let rest : List (Tree _) = into_iter_items c.next.new.self in
    let taken : left ≡ c.in-Some.token ∷ rest = search rules in
    let size = size_taken left rest c.in-Some.token taken in
    let more = length_push c.loop-token.yielded c.in-Some.token in
    let own : levels c.in-Some.token ≡ (c.in-Err.token ∷ []) ∷ [] =
    sym c.opened.ensures.levels ∙ c.in-Err.ensures.levels in
    record {
      all = one_found c.loop-token.found.items c.push.new.self.items c.loop-token.below.items left rest _
          c.in-Some.token c.in-Err.token own taken c.in_ok-push-in-Err.ensures.items
          c.loop-token.invariant.all;
      less = omega (arith, more, size, c.loop-token.invariant.less);
      given = omega (arith, more, ap length taken, c.loop-token.invariant.given);
      count = search rules;
    }

pub loop-token-preserved-in-Ok : goal.loop-token-preserved-in-Ok
loop-token-preserved-in-Ok g c =
    let below : List (Tree _) = c.loop-token.below.items in
    let inner : List (Tree _) = c.in-Ok.branches.items in
    let left : List (Tree _) = into_iter_items c.loop-token.token-iterator in
    let rest : List (Tree _) = into_iter_items c.next.new.self in
    let taken : left ≡ c.in-Some.token ∷ rest = search rules in
    let size = size_taken left rest c.in-Some.token taken in
    let more = length_push c.loop-token.yielded c.in-Some.token in
    let own : levels c.in-Some.token ≡ [] ∷ levels_each (trees inner) =
    sym c.opened.ensures.levels ∙ c.in-Ok.ensures.levels in
    let grown : c.append.new.self.items ≡ below ++ inner = c.in_ok-append-in-Ok.ensures.items in
    let sum = ap (λ z. trees_size (trees z)) grown ∙ size_append below inner in
    let outer = c.opened.ensures.size in
    let inside = c.in-Ok.ensures.size in
    record {
      all = branches_below c.loop-token.found.items below c.append.new.self.items left rest _
          c.in-Some.token inner own taken grown c.loop-token.invariant.all;
      less = omega (arith, more, size, sum, outer, inside, c.loop-token.invariant.less);
      given = omega (arith, more, ap length taken, c.loop-token.invariant.given);
      count = search rules;
    }
