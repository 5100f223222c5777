use Rattle.std.proofs.Common.{◌≡◌, ◌∙◌, ap, subst, sym, map, chars}
use Rattle.wax_exclude.proofs.Origins.{can_least}
use Rattle.wax_exclude.specs.{BeginsRequest.within, Premises.BeginsWith}
use Rattle.wax_query.specs.Ranges.{bounds}
use Rattle.wax_token.specs.{Syntax.alternation, Words.trees}
use Rattle.wax_tree.specs.{Begins.behavior_range, Prefix.from_last}
use Rattle.wax_walk.proofs.Collecting.{map_ok}
use Rattle.wax_set.proofs.Walks.{set_begins}
use Rattle.wax_set.proofs.set.walking.walk_in.Goals as goal

pub returns-clause-begins : goal.returns-clause-begins
returns-clause-begins g c =
    let law = g.D.Directory.law in
    let any = c.args.any.now in
    let start = c.args.start.now in
    let asked = behavior_range c.args.behavior in
    let depth = bounds c.depth.result in
    let same : c.within-asked.result ≡ within asked depth =
    c.within-asked.ensures ∙ ap (λ r. within r depth) c.range.ensures in
    let tree : any ≡ alternation (0, 0) (trees c.branches.result.now) = c.branches.ensures in
    let rooted = c.in_ok-prefix_names.prefix_names.is_rooted in
    let names = from_last c.in_ok-prefix_names.prefix_names.names.items in
    let meant : BeginsWith rooted any (map chars names) =
    subst (λ t. BeginsWith rooted t (map chars names)) (sym tree)
    (c.in_ok-prefix_names.ensures.meant (0, 0)) in
    map_ok (λ walk seen. record {
      depth = depth;
      depth_is = c.depth.ensures.depth;
      begins = record {
        branches = c.branches.result.now;
        tree_is = tree;
        rooted = rooted;
        names = names;
        names_are = c.in_ok-prefix_names.ensures.common;
      };
      can = λ filters plain.
          can_least (record { rooted = rooted; glob = any; filters = filters }) start asked depth names
          c.depth.ensures.greatest meant plain;
      comes = set_begins any law c.args.directory start asked c.within-asked.result depth same
          rooted names _ _ seen
          c.walk_along-walk.ensures.begins;
    }) c.uncaptured_of.result c.uncaptured_of.ensures.view
