use Rattle.std.proofs.Common.{◌≡◌, ◌<◌, ◌↔◌, ◌∷◌, [], Contains, IsTrue, slice_index, sym, ◌∙◌, subst, inl}
use Rattle.std.proofs.{Common.inr, lemmas.List.get_or_default}
use Rattle.std.proofs.lemmas.List.Elements.{Contains-append_left, Contains-push}
use Rattle.wax_compare.specs.inner.Distinctions.{TakesCharacter}
use Rattle.wax_compare.proofs.Distinguished.{same_taken, upto_all, upto_more}
use Rattle.wax_compare.proofs.distinctions.exceptions_of.Goals as goal

pub loop-number-preserved-then-takes-takes_others : goal.loop-number-preserved-then-takes-takes_others
loop-number-preserved-then-takes-takes_others c =
    let letters = c.args.letters.now in
    let i = c.args.instruction.now in
    let number = c.loop-number.number in
    let takes_others = c.takes_most-takes_others.result in
    let is : c.index-letters-number.result ≡ slice_index letters number = c.index-letters-number.is
    ∙ get_or_default letters number c.index-letters-number.result 0 c.loop-number-test.true in
    let same : c.takes.result ≡ takes_others =
    same_taken c.takes.result takes_others c.if-takes-takes_others.true in
    let takes : TakesCharacter i (slice_index letters number) ↔ IsTrue takes_others =
    subst (λ b. TakesCharacter i (slice_index letters number) ↔ IsTrue b) same (subst (λ d.
    TakesCharacter i d ↔ IsTrue c.takes.result) is (c.takes.ensures.takes.1, c.takes.ensures.takes.0)) in
    upto_more letters i takes_others c.loop-number.numbers.items c.loop-number.numbers.items number
    (λ n h. h) c.loop-number.invariant (inr (subst (λ d. d < 1114112) is c.takes.ensures.small, takes))

pub loop-number-preserved : goal.loop-number-preserved
loop-number-preserved c =
    let number = c.loop-number.number in
    let pushed = c.in_ok-push.ensures.items in
    upto_more c.args.letters.now c.args.instruction.now c.takes_most-takes_others.result
    c.loop-number.numbers.items c.push.new.self.items number
    (λ n h. subst (λ l. Contains l n) (sym pushed)
    (Contains-append_left c.loop-number.numbers.items (number ∷ []) n h)) c.loop-number.invariant
    (inl (subst (λ l. Contains l number) (sym pushed) (Contains-push c.loop-number.numbers.items number)))

pub returns : goal.returns
returns c = upto_all c.args.letters.now c.args.instruction.now c.takes_most-takes_others.result
    c.loop-number.numbers.items c.loop-number.number c.loop-number-test.false c.loop-number.invariant
