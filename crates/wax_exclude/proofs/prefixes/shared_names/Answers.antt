use Rattle.std.proofs.Common.{◌∙◌, ap, map, string_bytes, subst, sym}
use Rattle.wax_tree.specs.Prefix.{from_last}
use Rattle.wax_exclude.specs.inner.Shared.{IsCommonBeginning}
use Rattle.wax_exclude.proofs.{SharedPrefixes.common_after, SplitPrefixes.reversed_last}
use Rattle.wax_exclude.proofs.prefixes.shared_names.Goals as goal

pub returns : goal.returns
returns c =
    let l = c.loop-name in
    let names = from_last c.args.names.items in
    let others = from_last c.args.others.items in
    subst (IsCommonBeginning names others)
    (sym (ap from_last c.reverse.ensures.items ∙ reversed_last l.shared.items))
    (common_after (map string_bytes l.shared.items) (from_last l.names.items)
    (from_last l.others.items) names others l.invariant.0 l.invariant.1 c.in_default.ensures)
