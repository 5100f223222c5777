use Rattle.std.proofs.{Common.{◌≡◌, ◌∙◌, ◌∷◌, [], ap, rules, IsTrue, chars}, lemmas.List.nil_from_length}
use Rattle.std.proofs.lemmas.Str.{chars-nil, chars_past_char, IsUtf8-past_char}
use Rattle.std.specs.Str.Iter.{chars_rest}
use Rattle.wax_token.specs.Meaning.{SameFold}
use Rattle.wax_prefilter.proofs.AnyCase.{alike_step, not_at_end, folds_alike, seen_past}
use Rattle.wax_prefilter.proofs.any_case.begins_in_any_case.Goals as goal

pub loop-d-preserved : goal.loop-d-preserved
loop-d-preserved c =
    let left : chars (chars_rest c.loop-d.left)
    ≡ c.in-Some-next.c ∷ chars (chars_rest c.next-in-Some.new.self) =
    chars_past_char _ _ _ c.loop-d.invariant.0 c.in-Some-next.ensures.steps.0 in
    let wanted : chars (chars_rest c.loop-d.wanted) ≡ c.in-Some.d ∷ chars (chars_rest c.next.new.self) =
    chars_past_char _ _ _ c.loop-d.invariant.1 c.in-Some.ensures.steps.0 in (
      IsUtf8-past_char _ _ _ c.loop-d.invariant.0 c.in-Some-next.ensures.steps.0,
      IsUtf8-past_char _ _ _ c.loop-d.invariant.1 c.in-Some.ensures.steps.0,
      (λ x y e h. (alike_step c.in-Some.d (chars (chars_rest c.next.new.self)) c.in-Some-next.c
          (chars (chars_rest c.next-in-Some.new.self)) y
          (seen_past _ _ _ _ y left wanted (c.loop-d.invariant.2 x y e h))).1),
    )

pub returns-then-not-folds_to : goal.returns-then-not-folds_to
returns-then-not-folds_to c = λ x y e h.
    let left : chars (chars_rest c.loop-d.left)
    ≡ c.in-Some-next.c ∷ chars (chars_rest c.next-in-Some.new.self) =
    chars_past_char _ _ _ c.loop-d.invariant.0 c.in-Some-next.ensures.steps.0 in
    let wanted : chars (chars_rest c.loop-d.wanted) ≡ c.in-Some.d ∷ chars (chars_rest c.next.new.self) =
    chars_past_char _ _ _ c.loop-d.invariant.1 c.in-Some.ensures.steps.0 in
    let same : SameFold c.in-Some.d c.in-Some-next.c = (alike_step c.in-Some.d
    (chars (chars_rest c.next.new.self)) c.in-Some-next.c (chars (chars_rest c.next-in-Some.new.self)) y
    (seen_past _ _ _ _ y left wanted (c.loop-d.invariant.2 x y e h))).0 in
    let folds : IsTrue c.folds_to.result =
    c.folds_to.ensures.1 (c.simple_fold.ensures ∙ folds_alike c.in-Some.d c.in-Some-next.c same) in
    absurd (search (rules, folds))

pub returns-in_default-next : goal.returns-in_default-next
returns-in_default-next c = λ x y e h.
    let left : chars (chars_rest c.loop-d.left) ≡ [] =
    ap chars (nil_from_length _ c.in_default-next.ensures.steps.0.0) ∙ chars-nil in
    let wanted : chars (chars_rest c.loop-d.wanted) ≡ c.in-Some.d ∷ chars (chars_rest c.next.new.self) =
    chars_past_char _ _ _ c.loop-d.invariant.1 c.in-Some.ensures.steps.0 in
    absurd (not_at_end c.in-Some.d (chars (chars_rest c.next.new.self)) y
    (seen_past _ _ _ _ y left wanted (c.loop-d.invariant.2 x y e h)))
