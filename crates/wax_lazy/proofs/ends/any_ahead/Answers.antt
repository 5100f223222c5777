use Rattle.std.proofs.Common.{◌≡◌, ◌<◌, ℕ, List, length, get_or, inl, inr, sym, ◌∙◌, subst, true≢false, arith}
use Rattle.std.proofs.{lemmas.Bool.cases_eq, lemmas.List.get_or_default}
use Rattle.wax_program.specs.{Places.HoldsPlace, Onward.flags_for}
use Rattle.wax_lazy.proofs.ends.any_ahead.Goals as goal

pub loop-place-preserved : goal.loop-place-preserved
loop-place-preserved c = λ j k lt is h.
    let places : List ℕ = c.args.places.now in
    let i : ℕ = c.loop-place.place-index in
    let within : i < length places = c.loop-place-test.true in
    elim (cases_eq j i) [
      | inl e ↦ (let same : get_or places i 0 ≡ k =
          get_or_default places i 0 k within ∙ subst (λ n. get_or places n k ≡ k) e is in
          absurd (true≢false (sym (c.holds.ensures.1
          (subst (HoldsPlace (flags_for c.args.m c.args.onward.now)) (sym same) h)) ∙ c.if-holds.false)))
      | inr ne ↦ c.loop-place.invariant j k (omega (arith, lt, ne)) is h
    ]

pub returns : goal.returns
returns c = (
  (λ t. absurd (true≢false (sym t))),
  (λ (k, held, h).
      absurd (c.loop-place.invariant held.0 k (omega (arith, held.1, c.loop-place-test.false)) held.2 h)),
)
