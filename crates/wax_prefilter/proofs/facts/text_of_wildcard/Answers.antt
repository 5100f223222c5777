use Rattle.std.proofs.Common.{◌≡◌, false, true, [], ◌∷◌, chars, sym, subst}
use Rattle.wax_token.specs.Meaning.{TreeMeans}
use Rattle.wax_prefilter.specs.{Facts.ContainsAt, Known.CanBeAfter}
use Rattle.wax_prefilter.proofs.Holding.{slash_begins}
use Rattle.wax_prefilter.proofs.facts.text_of_wildcard.Goals as goal

pub returns-in-Beginning : goal.returns-in-Beginning
returns-in-Beginning c = λ before after text alone h.
    let first : before ≡ false = subst (λ anchor. CanBeAfter anchor before) c.in-Beginning.is alone in
    let m : TreeMeans before after c.in-Tree.has_root text = rw c.in-Tree.is at h in
    let rooted : TreeMeans false after true text =
    subst (λ b. TreeMeans b after true text) first
    (subst (λ b. TreeMeans before after b text) c.if-has_root.true m) in
    subst (λ anchor. ContainsAt anchor (false, chars (47 ∷ [])) text) (sym c.in-Beginning.is)
    (slash_begins after text rooted)
