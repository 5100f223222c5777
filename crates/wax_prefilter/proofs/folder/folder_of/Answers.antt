use Rattle.std.proofs.Common.{◌↔◌, List, ℕ, IfSome, chars, false, sym, ◌∙◌, subst}
use Rattle.wax_prefilter.proofs.Within.{some_means, two_items}
use Rattle.wax_prefilter.specs.Within.{IsInFolder}
use Rattle.wax_token.specs.{Meaning.MeansEach, Words.trees}
use Rattle.wax_prefilter.proofs.folder.folder_of.Goals as goal

pub returns-in-len2 : goal.returns-in-len2
returns-in-len2 c =
    let ts = c.args.tokens.now in
    let is = two_items ts c.first-item.result c.last-item.result c.in-len2.len_at_least c.in-len2.len_below
    c.first-item.is c.last-item.is in
    subst (λ z. IfSome c.literal_text.result (λ folder. (text : List ℕ)
    → MeansEach (trees z) false false text ↔ IsInFolder (chars folder.now) text)) (sym is)
    (some_means c.first-item.result c.last-item.result c.literal_text.result c.literal_text.ensures
    (sym c.is_tree_wildcard.ensures ∙ c.if-is_tree_wildcard.true))
