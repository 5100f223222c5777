use Rattle.std.proofs.Common.{◌∙◌, ◌++◌, ap, append-nil, map, string_bytes, sym}
use Rattle.std.proofs.Math.ListN.{drop_of_length-le}
use Rattle.wax_tree.specs.Prefix.{from_last}
use Rattle.wax_exclude.proofs.SplitPrefixes.{reversed_last}
use Rattle.wax_exclude.proofs.prefixes.names_from_last.Goals as goal

pub returns : goal.returns
returns c =
    let copies = c.loop-name.copies.items in
    ap from_last c.reverse.ensures.items
    ∙ reversed_last copies
    ∙ sym (append-nil (map string_bytes copies))
    ∙ ap (λ v. map string_bytes copies ++ map (λ x. x.now) v)
    (sym (drop_of_length-le c.deref-name-items.result.now c.loop-name-test.false))
    ∙ c.loop-name.invariant
