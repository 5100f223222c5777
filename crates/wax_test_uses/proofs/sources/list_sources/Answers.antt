use Rattle.std.proofs.Common.{ap, sym}
use Rattle.wax.specs.Walks.{behavior_range, tree_law}
use Rattle.wax_test_uses.proofs.{Expressions.{in_src, in_src_spelled}, KeptSources.sources_listed}
use Rattle.wax_test_uses.proofs.sources.list_sources.Goals as goal

pub returns : goal.returns
returns c =
    sources_listed _ c.in_ok-filters.filters.items (tree_law.shows c.in_ok-tree.tree)
    (tree_law.tells c.in_ok-tree.tree) (tree_law.tells c.in_ok-items.field-0-1) _ c.in_ok-glob.glob.tree
    (behavior_range c.default.result) c.in_ok-items.ensures.wanted
    (c.in_ok-glob.ensures.build.only in_src in_src_spelled.0) (sym (ap behavior_range c.default.ensures))
    c.in_ok-filter.filter c.ignore.result c.in_ok-filters.ensures.items c.in_ok-filter.ensures
    c.in_ok-list.list c.in_ok-list.ensures c.ignore.ensures c.in_ok-tree.ensures.shows
    c.in_ok-tree.ensures.untold c.law_of_feeds.ensures.requests
