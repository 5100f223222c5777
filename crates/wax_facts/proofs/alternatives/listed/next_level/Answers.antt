use Rattle.std.proofs.Common.{◌≡◌, ◌+◌, ◌≤◌, ◌∷◌, ◌++◌, [], List, arith, ap, ◌∙◌, drop, rules, sym}
use Rattle.std.proofs.lemmas.List.{drop_more}
use Rattle.wax_token.specs.{Syntax.{Tree, tree_size, trees_size}, Words.trees}
use Rattle.wax_facts.specs.{Alternatives.levels, inner.Opened.own_levels}
use Rattle.wax_facts.proofs.Levels.{branches_below, one_found, size_append, size_taken, still}
use Rattle.wax_facts.proofs.Opens.{own_alone, own_branches}
use Rattle.wax_facts.proofs.alternatives.listed.next_level.Goals.{in-Some+in_ok-push_each-in-Some}
use Rattle.wax_facts.proofs.alternatives.listed.next_level.Goals.{in-None+in_ok-push-in-None}
use Rattle.wax_facts.proofs.alternatives.listed.next_level.Goals as goal

pub loop-alternative-preserved : goal.loop-alternative-preserved
loop-alternative-preserved g c =
    let level : List (Tree _) = c.args.level.now in
    let i = c.loop-alternative.alternative-index in
    let left : List (Tree _) = drop i level in
    let rest : List (Tree _) = drop (i + 1) level in
    let t = c.alternative-item.result in
    let u = c.opened-token.result.now in
    let found : List (Tree _) = c.loop-alternative.found.items in
    let below : List (Tree _) = c.loop-alternative.below.items in
    let found' : List (Tree _) = c.match-as_alternation.found.items in
    let below' : List (Tree _) = c.match-as_alternation.below.items in
    let taken : left ≡ t ∷ rest =
    drop_more level i t c.loop-alternative-test.true ∙ ap (λ z. z ∷ rest) (sym c.alternative-item.is) in
    let size = size_taken left rest t taken in
    let own : levels t ≡ own_levels u = search rules in
    let outer : tree_size u ≤ tree_size t = search rules in
    let before = c.loop-alternative.invariant in
    elim c.match-as_alternation.branch [
      | in-Some+in_ok-push_each-in-Some w ↦
          let inner : List (Tree _) = w.in-Some.alternation.now.tokens.items in
          let apart = own_branches u (trees inner) w.in-Some.ensures in
          let grown : below' ≡ below ++ inner = search rules in
          let same : found' ≡ found = search rules in
          let sum = ap (λ z. trees_size (trees z)) grown ∙ size_append below inner in
          let inside = apart.1 in
          record {
            all = ap (λ z. z ++ still below' rest) same
                ∙ branches_below found below below' left rest _ t inner (own ∙ apart.0) taken grown
                before.all;
            less = omega (arith, size, sum, outer, inside, before.less);
          }
      | in-None+in_ok-push-in-None w ↦
          let grown : found' ≡ found ++ u ∷ [] = search rules in
          let same : below' ≡ below = search rules in
          let sum = ap (λ z. trees_size (trees z)) same in
          let alone = own ∙ own_alone u w.in-None.ensures in
          record {
            all = ap (λ z. found' ++ still z rest) same
                ∙ one_found found found' below left rest _ t u alone taken grown before.all;
            less = omega (arith, size, sum, before.less);
          }
    ]
