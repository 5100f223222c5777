use Rattle.std.proofs.Common.{◌≡◌, ◌∙◌, ◌∷◌, [], List, ℕ, ap, sym, subst, true, rules, IsTrue, chars}
use Rattle.std.proofs.{lemmas.List.nil_from_length, lemmas.Str.{chars-nil, chars_past_char, IsUtf8-past_char}}
use Rattle.std.specs.Str.Iter.{chars_rest}
use Rattle.wax_token.specs.Meaning.{SameFold, SameText}
use Rattle.wax_prefilter.proofs.AnyCase.{BeginsAlike, HoldsAlike, stands_later, stands_nowhere, folds_alike}
use Rattle.wax_prefilter.proofs.any_case.contains_in_any_case.Goals as goal
use Rattle.wax_prefilter.proofs.any_case.contains_in_any_case.Goals.{
  else-folds_to-via-then-folds_to+else-begins_in_any_case,
}
use Rattle.wax_prefilter.proofs.any_case.contains_in_any_case.Goals.{else-folds_to-via-else-folds_to}

pub loop-c-preserved : goal.loop-c-preserved
loop-c-preserved c =
    let text : List ℕ = chars (chars_rest c.next-in-loop-c.new.self) in
    let wanted : List ℕ = chars (chars_rest c.next.new.self) in
    let held : chars c.args.held.now ≡ c.in-Some.first ∷ wanted =
    chars_past_char _ _ _ c.utf8.held (sym c.chars-wanted.ensures.rest ∙ c.in-Some.ensures.steps.0) in
    let left : chars (chars_rest c.loop-c.left) ≡ c.in-Some-next.c ∷ text =
    chars_past_char _ _ _ c.loop-c.invariant.0 c.in-Some-next.ensures.steps.0 in
    let not_here : (z : List ℕ) → SameFold c.in-Some.first c.in-Some-next.c → BeginsAlike text wanted z → ⊥ =
    λ z f b. elim c.else-folds_to.branch [
      | else-folds_to-via-then-folds_to+else-begins_in_any_case w ↦
          let found : IsTrue w.begins_in_any_case.result =
          w.begins_in_any_case.ensures b.0 z (ap chars w.as_str.ensures ∙ b.1)
          (subst (λ v. SameText true v b.0) (sym (ap chars w.as_str-then-folds_to.ensures)) b.2) in
          absurd (search (rules, found))
      | else-folds_to-via-else-folds_to w ↦
          let folds : IsTrue c.folds_to.result = c.folds_to.ensures.1
          (c.simple_fold-folded.ensures ∙ folds_alike c.in-Some.first c.in-Some-next.c f) in
          absurd (search (rules, folds))
    ] in (
      IsUtf8-past_char _ _ _ c.loop-c.invariant.0 c.in-Some-next.ensures.steps.0,
      (λ x y z e h. stands_later c.in-Some.first wanted (chars c.args.held.now) c.in-Some-next.c text y z held
          h (not_here z) (subst (λ v. HoldsAlike v y z) left (c.loop-c.invariant.1 x y z e h))),
    )

pub returns : goal.returns
returns c = λ x y z e h.
    let held : chars c.args.held.now ≡ c.in-Some.first ∷ chars (chars_rest c.next.new.self) =
    chars_past_char _ _ _ c.utf8.held (sym c.chars-wanted.ensures.rest ∙ c.in-Some.ensures.steps.0) in
    let left : chars (chars_rest c.loop-c.left) ≡ [] =
    ap chars (nil_from_length _ c.in_default-next.ensures.steps.0.0) ∙ chars-nil in
    absurd (stands_nowhere c.in-Some.first (chars (chars_rest c.next.new.self)) (chars c.args.held.now) y z
    held h (subst (λ v. HoldsAlike v y z) left (c.loop-c.invariant.1 x y z e h)))
