use Rattle.std.proofs.Common.{◌≡◌, [], ◌∷◌, sym}
use Rattle.wax_prefilter.proofs.{Holding.{stands_whole, same_slash}, MeantEdges.as_seen}
use Rattle.wax_token.specs.Meaning.{SameText}
use Rattle.wax_prefilter.proofs.facts.text_of.Goals as goal

pub returns-in_default : goal.returns-in_default
returns-in_default c = λ before after text alone h.
    let m : SameText c.in-Literal.literal.0 c.in-Literal.literal.1 text = rw c.in-Literal.is at h in
    stands_whole c.args.anchor _ text
    (as_seen _ _ _ _ text (sym c.is_case_insensitive-in_default.ensures) c.text.ensures m)

pub returns-in_default-anchor : goal.returns-in_default-anchor
returns-in_default-anchor c = λ before after text alone h.
    let m : text ≡ 47 ∷ [] = rw c.in-Separator.is at h in
    stands_whole c.args.anchor _ text (same_slash text m)
