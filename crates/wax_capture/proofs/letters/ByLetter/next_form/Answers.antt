use Rattle.std.proofs.Common.{◌≡◌, ◌∷◌, ◌+◌, ◌≤◌, ◌<◌, ℕ, suc, Bool, List, Some, drop, drop-cons, get_or}
use Rattle.std.proofs.Common.{length, length-drop, slice_get, arith, rules, ap, subst, sym, ◌∙◌}
use Rattle.wax_lengths.specs.{declared.form.Form.Form, FirstLetters.{group_of, letter_of}}
use Rattle.wax_lengths.proofs.Lists.{slice_read}
use Rattle.wax_capture.specs.inner.Letters.{AreLinked, ArePassed, NoneBegins}
use Rattle.wax_capture.proofs.Linking.{passed_empty, passed_join, passed_more, passed_with}
use Rattle.wax_capture.proofs.letters.ByLetter.next_form.Goals as goal

begins : (text : List ℕ) (at d : ℕ) → at < length text → d ≡ get_or text at d
    → drop at text ≡ d ∷ drop (suc at) text
begins text at d lt is = drop-cons text at d lt ∙ ap (λ z. z ∷ drop (suc at) text) (sym is)

with_letter : (forms : List Form) (folded : Bool) (firsts nexts text : List ℕ) (at d letter group from to : ℕ)
    → AreLinked forms folded firsts nexts 0 → at < length text → d ≡ get_or text at d
    → letter ≡ letter_of folded d → group ≡ group_of letter → NoneBegins forms from to group
    → ArePassed forms from to (drop at text)
with_letter forms folded firsts nexts text at d letter group from to links lt is is_letter is_group none =
    let same : group ≡ group_of (letter_of folded d) = is_group ∙ ap group_of is_letter in
    rw (begins text at d lt is) (passed_with forms folded firsts nexts links from to d (drop (suc at) text)
    (subst (NoneBegins forms from to) same none))

pub returns-then-at-len-clause-passed : goal.returns-then-at-len-clause-passed
returns-then-at-len-clause-passed c =
    let text : List ℕ = c.args.text.now in
    let at : ℕ = c.args.at in
    let forms : List Form = c.self.inside.forms.items in
    let same : forms ≡ c.args.self.now = search rules in
    let none : length (drop at text) ≡ 0 =
    omega (arith, length-drop at text, c.len.ensures.is, c.if-at-len.true) in
    subst (λ z. ArePassed z c.args.from c.max.result (drop at text)) same
    (passed_empty forms _ _ _ c.self.invariant c.args.from c.max.result (drop at text) none)

pub loop-index-init : goal.loop-index-init
loop-index-init c =
    let text : List ℕ = c.args.text.now in
    let at : ℕ = c.args.at in
    let forms : List Form = c.self.inside.forms.items in
    let same : forms ≡ c.args.self.now = search rules in
    let lt : at < length text = omega (arith, c.requires, c.len.ensures.is, c.if-at-len.false) in
    let none : NoneBegins forms c.args.from c.next_in-index.result c.group_of-group.result =
    rw (sym same) at c.next_in-index.ensures.none in
    record {
      further = c.next_in-index.ensures.further;
      passed = subst (λ z. ArePassed z c.args.from c.next_in-index.result (drop at text)) same
          (with_letter forms _ _ _ text at c.char_at.result c.letter_of.result c.group_of-group.result
          c.args.from c.next_in-index.result c.self.invariant lt c.char_at.ensures c.letter_of.ensures
          c.group_of-group.ensures.is none);
    }

pub loop-index-preserved : goal.loop-index-preserved
loop-index-preserved c =
    let text : List ℕ = c.args.text.now in
    let at : ℕ = c.args.at in
    let own : List Form = c.self.inside.forms.items in
    let same : own ≡ c.args.self.now = search rules in
    let forms : List Form = c.args.self.now in
    let k : ℕ = c.loop-index.index in
    let f : Form = c.index.result.now in
    let s : List ℕ = drop at text in
    let lt : k < length forms = search rules in
    let is : slice_get forms k ≡ Some f = slice_read forms k f lt (rw same at c.index.ensures) in
    let next : ℕ = c.next_in-index-in-loop-index.result in
    let inside : at < length text = omega (arith, c.requires, c.len.ensures.is, c.if-at-len.false) in
    let none : NoneBegins own (k + 1) next c.group_of-group.result =
    rw (sym same) at c.next_in-index-in-loop-index.ensures.none in
    let after : ArePassed forms (k + 1) next s = subst (λ z. ArePassed z (k + 1) next s) same (with_letter
    own _ _ _ text at c.char_at.result c.letter_of.result c.group_of-group.result (k + 1) next
    c.self.invariant inside c.char_at.ensures c.letter_of.ensures c.group_of-group.ensures.is none) in
    let further : k + 1 ≤ next = c.next_in-index-in-loop-index.ensures.further in
    let passed : ArePassed forms c.args.from (k + 1) s = passed_more forms c.args.from k f s is
    (c.may_spell.ensures (search rules)) c.loop-index.invariant.passed in
    record {
      further = omega (arith, further, c.loop-index.invariant.further);
      passed = passed_join forms c.args.from (k + 1) next s passed after;
    }
