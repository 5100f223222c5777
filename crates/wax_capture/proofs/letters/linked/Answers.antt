use Rattle.std.proofs.Math.Bool.{beq, not}
use Rattle.std.proofs.Common.{◌≡◌, ◌+◌, ◌-◌, ◌<◌, ℕ, Bool, true, false, refl, List, Some, get_or, length}
use Rattle.std.proofs.Common.{slice_get, arith, rules, sym, subst, ◌∙◌}
use Rattle.wax_lengths.specs.{declared.form.Form.Form, FirstLetters.{first_letter, group_of, is_folded}}
use Rattle.wax_lengths.proofs.Lists.{read_within, slice_read}
use Rattle.wax_capture.specs.inner.Letters.{AreLinked}
use Rattle.wax_capture.proofs.Linking.{links_more}
use Rattle.wax_capture.proofs.letters.linked.Goals as goal

not_other : (a b : Bool) → not (beq a b) ≡ false → a ≡ b
not_other true true e = refl
not_other true false e = absurd (cc)
not_other false true e = absurd (cc)
not_other false false e = refl

pub loop-index-preserved : goal.loop-index-preserved
loop-index-preserved c =
    let forms : List Form = c.args.forms.items in
    let folded : Bool = c.is_folded-is_any_case.result in
    let firsts : List ℕ = c.loop-index.firsts.items in
    let nexts : List ℕ = c.loop-index.nexts.items in
    let i : ℕ = c.loop-index.index - 1 in
    let letter : ℕ = c.in-Some.letter in
    let group : ℕ = c.group_of-group.result in
    let is_group : group ≡ group_of letter = c.group_of-group.ensures.is in
    let old : ℕ = c.index-in-loop-index.result.now in
    let f : Form = c.index-form.result.now in
    let one : c.loop-index.index ≡ i + 1 = omega (arith, c.loop-index-test.true) in
    let lt : i < length forms = omega (arith, one, c.loop-index.invariant.within) in
    let is : slice_get forms i ≡ Some f = slice_read forms i f lt (search rules) in
    let begins : first_letter f ≡ Some letter = search rules in
    let case : is_folded f ≡ folded =
    sym c.is_folded.ensures ∙ not_other c.is_folded.result folded c.if-is_folded-is_any_case.false in
    let small : group_of letter < 128 = subst (λ z. z < 128) is_group c.group_of-group.ensures.within in
    let far : group < length firsts =
    omega (arith, c.group_of-group.ensures.within, c.loop-index.invariant.linked.all) in
    let was : old ≡ get_or firsts group 0 =
    c.index-in-loop-index.ensures ∙ read_within firsts group old 0 far in
    record {
      within = omega (arith, lt);
      linked = rw is_group (links_more forms folded firsts nexts i letter old f
          (subst (AreLinked forms folded firsts nexts) one c.loop-index.invariant.linked) lt is begins case
          small (subst (λ z. old ≡ get_or firsts z 0) is_group was));
    }

pub invariant_of-by_letter : goal.invariant_of-by_letter
invariant_of-by_letter c =
    let none : c.loop-index.index ≡ 0 = omega (arith, c.loop-index-test.false) in
    subst (AreLinked c.args.forms.items c.is_folded-is_any_case.result c.loop-index.firsts.items
    c.loop-index.nexts.items) none c.loop-index.invariant.linked
