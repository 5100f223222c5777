use Rattle.std.proofs.{Common.{◌≡◌, ◌∙◌, ◌∷◌, refl, subst, sym, true}, lemmas.Bool.false≢true}
use Rattle.wax_directory.specs.Names.{is_rooted}
use Rattle.wax_exclude.specs.Prefix.{HasEmptyName}
use Rattle.wax_exclude.proofs.SplitPrefixes.{empty_later, pair_here, pair_past}
use Rattle.wax_exclude.proofs.prefixes.has_empty_name.Goals as goal
use Rattle.wax_exclude.proofs.prefixes.has_empty_name.Goals.{
  else-first-eq47-via-then-first-eq47+else-begins_with_slash,
}
use Rattle.wax_exclude.proofs.prefixes.has_empty_name.Goals.{else-first-eq47-via-else-first-eq47}

pub returns-then-begins_with_slash : goal.returns-then-begins_with_slash
returns-then-begins_with_slash c =
    let here : HasEmptyName (c.in-Some.first.now ∷ c.in-Some.others.now) =
    pair_here c.in-Some.first.now c.in-Some.others.now c.if-first-eq47.true
    (sym c.begins_with_slash.ensures ∙ c.if-begins_with_slash.true) in
    ((λ q. c.loop-first.invariant.0 (subst HasEmptyName (sym c.in-Some.ensures.cases.0) here)), (λ q. refl))

pub loop-first-preserved : goal.loop-first-preserved
loop-first-preserved c =
    let first = c.in-Some.first.now in
    let others = c.in-Some.others.now in
    let apart : first ≡ 47 → is_rooted others ≡ true → ⊥ = λ e f. elim c.else-first-eq47.branch [
      | else-first-eq47-via-then-first-eq47+else-begins_with_slash w ↦
          false≢true (sym w.if-begins_with_slash.false ∙ w.begins_with_slash.ensures ∙ f)
      | else-first-eq47-via-else-first-eq47 w ↦ w.if-first-eq47.false e
    ] in (
      (λ h. c.loop-first.invariant.0
          (subst HasEmptyName (sym c.in-Some.ensures.cases.0) (empty_later first others h))),
      (λ h. pair_past first others apart
          (subst HasEmptyName c.in-Some.ensures.cases.0 (c.loop-first.invariant.1 h))),
    )
