use Rattle.std.proofs.Common.{◌≡◌, ◌∙◌, ◌∷◌, ◌++◌, [], ℤ, refl, sym, ap, subst, pos, w32}
use mir.{Val.{to_z, of_z}, ValLaws.to_z-of_z}
use Rattle.wax_c.proofs.Asking.{asked_all, asked_next, opened}
use Rattle.wax_c.specs.{Outcomes.{DecidesAs, SaysMatch}, Sessions.AnswersEach}
use Rattle.wax_c.specs.declared.error.CallError.TheVariants.{Build}
use Rattle.wax.specs.Language.{Memory}
use Rattle.wax_c.proofs.session.session.Goals as goal

-- the machine's number is 0
is_zero : (n : ℤ) → to_z w32 (of_z w32 n) ≡ n → of_z w32 n ≡ 0 → n ≡ pos 0
is_zero n same zero = sym same ∙ ap (to_z w32) zero

pub ask-same-requires : goal.ask-same-requires
ask-same-requires c =
    let n = c.wax_glob_new-status.result in
    let zero = is_zero n (to_z-of_z w32 n (record { sfits = c.wax_glob_new-status.type_inv }))
    c.if-status-ne0.false in
    let made = opened c.args.expression.now c.wax_glob_new-status.new.out c.wax_glob_new-status.new.span n
    c.wax_glob_new-status.ensures zero in
    (made.0, ap (λ h. h.held) c.loop-index.invariant.same ∙ made.1)

pub loop-index-preserved : goal.loop-index-preserved
loop-index-preserved c = record {
  same = c.ask-same.ensures.same ∙ c.loop-index.invariant.same;
  answered = λ g held.
      let r = c.ask-same.result.1 in let t = c.ask-same.type_inv.1 in
      let number : to_z w32 (of_z w32 r) ≡ r = to_z-of_z w32 r (record { sfits = t.1.1.1.0.1 }) in
      subst (AnswersEach g _)
      (sym (c.in-Ok.ensures.items ∙ ap (λ n. c.loop-index.answers.items ++ n ∷ []) number))
      (asked_next (λ path n. DecidesAs (SaysMatch g) path n) c.args.paths.now c.loop-index.index
      (record { ref_ptr = (0, 0); now = [] }) c.loop-index.answers.items r c.loop-index-test.true
      (c.loop-index.invariant.answered g held)
      (c.ask-same.ensures.answer g (ap (λ h. h.held) c.loop-index.invariant.same ∙ held)));
}

pub returns-in_default : goal.returns-in_default
returns-in_default c =
    let n = c.wax_glob_new-status.result in
    let zero = is_zero n (to_z-of_z w32 n (record { sfits = c.wax_glob_new-status.type_inv }))
    c.if-status-ne0.false in
    let made = opened c.args.expression.now c.wax_glob_new-status.new.out c.wax_glob_new-status.new.span n
    c.wax_glob_new-status.ensures zero in
    (Build Memory, (made.2.0, tt), refl)

pub returns : goal.returns
returns c =
    let n = c.wax_glob_new-status.result in
    let zero = is_zero n (to_z-of_z w32 n (record { sfits = c.wax_glob_new-status.type_inv }))
    c.if-status-ne0.false in
    let made = opened c.args.expression.now c.wax_glob_new-status.new.out c.wax_glob_new-status.new.span n
    c.wax_glob_new-status.ensures zero in (
      made.0,
      made.2,
      asked_all (λ path n. DecidesAs (SaysMatch made.0) path n) c.args.paths.now c.loop-index.index
          c.loop-index.answers.items c.loop-index-test.false (c.loop-index.invariant.answered made.0 made.1),
    )
