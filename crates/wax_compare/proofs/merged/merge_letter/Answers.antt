use Rattle.std.proofs.Common.{Contains, subst, sym, true≢false, ◌∙◌, ◌∷◌, ◌++◌, []}
use Rattle.std.proofs.lemmas.List.Elements.{Contains-push}
use Rattle.wax_compare.specs.{Cuts.HasStandIn, inner.Merging.AreKeptLetters}
use Rattle.wax_compare.proofs.Merging.{itself, kept_more}
use Rattle.wax_compare.proofs.merged.merge_letter.Goals as goal

pub returns-clause-letters : goal.returns-clause-letters
returns-clause-letters c =
    let code = c.args.first.now.0 in
    let other = c.args.second.now.0 in
    let kept = c.args.kept.now.items in
    let digests = c.args.digests.now.items in
    let letter = c.args.letter in
    let digest = c.digest_of_both-digest.result in
    let none : HasStandIn code other kept letter → ⊥ = λ h. true≢false (sym (c.has_stand_in.ensures.1
    (subst (λ z. HasStandIn code other z letter) (sym c.deref.ensures.value) h)) ∙ c.if-has_stand_in.false) in
    subst (λ z. AreKeptLetters code other z c.push-2.new.self.items) (sym c.in_ok-push.ensures.items)
    (subst (AreKeptLetters code other (kept ++ letter ∷ [])) (sym c.in_ok-push-2.ensures.items)
    (kept_more code other kept digests letter digest c.requires c.digest_of_both-digest.ensures
    c.ranges.letter.0 none))

pub returns-clause-stands : goal.returns-clause-stands
returns-clause-stands c =
    itself c.args.first.now.0 c.args.second.now.0 c.push.new.self.items c.args.letter
    (subst (λ z. Contains z c.args.letter) (sym c.in_ok-push.ensures.items)
    (Contains-push c.args.kept.now.items c.args.letter))
