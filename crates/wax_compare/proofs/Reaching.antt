-- What follows of the pairs that were reached: that no text is wanted, or that one is a shortest.
use Rattle.std.proofs.Common.{◌≡◌, ◌+◌, ◌<◌, ◌≤◌, ℕ, true, List, [], ◌∷◌, Some, length, get_or, slice_get}
use Rattle.std.proofs.Common.{sym, ◌∙◌, ap, subst, arith, inl, inr}
use Rattle.std.proofs.lemmas.Option.{get_or_from_slice_get, slice_get-get_or, slice_get_within}
use Rattle.std.specs.Str.{all_scalars}
use Rattle.wax_program.specs.Machine.{Accepts}
use Rattle.wax_compare.specs.{declared.pairs.Reached.Reached, Comparison.IsWanted, Selected.IsSelected}
use Rattle.wax_compare.specs.{inner.Going.{Goes, starts}, inner.Automata.state_places}
use Rattle.wax_compare.specs.inner.Reaching.{AreFollowed, AreReachedPairs, BeginAsPrograms, GoesAt, Readings}
use Rattle.wax_compare.proofs.{Blocks.scalar_first, Closed.{longer, nothing}}
use Rattle.wax_compare.proofs.Steps.{allowed_first, ends_wanted, goes_along, goes_wanted, wanted_goes}

module _ (r : Readings) (reached : List Reached) (first : Reached)
    (is_first : slice_get reached 0 ≡ Some first) (pairs : AreReachedPairs r reached)
    (begin : BeginAsPrograms r) where
  -- the pair with a number, and the first one past the end
  abbrev pair_at : ℕ → Reached
  pair_at i = get_or reached i first

  abbrev GoesFrom : ℕ → List ℕ → Type 0
  GoesFrom i s = GoesAt r (pair_at i) s

  abbrev depth_at : ℕ → ℕ
  depth_at i = (pair_at i).depth

  here : (i : ℕ) → i < length reached → slice_get reached i ≡ Some (pair_at i)
  here i lt = slice_get-get_or reached i first lt

  none_at : (i : ℕ) → i < length reached → GoesFrom i [] → ⊥
  none_at i lt h = pairs.none i (pair_at i) (here i lt) h

  rises_at : (i j : ℕ) → i ≤ j → j < length reached → depth_at i ≤ depth_at j
  rises_at i j le lt = pairs.rises i j (pair_at i) (pair_at j) le (here i (omega (arith, le, lt))) (here j lt)

  closed_at : (done : ℕ) → done ≤ length reached → AreFollowed r reached done → (i c : ℕ) (s : List ℕ)
      → i < done → all_scalars (c ∷ s) ≡ true → GoesFrom i (c ∷ s)
      → (j : ℕ) × (j < length reached) × (depth_at j ≤ depth_at i + 1) × GoesFrom j s
  closed_at done within followed i c s lt scalars h =
      let x = pair_at i in
      elim (followed i c x lt (here i (omega (arith, lt, within))) (scalar_first c s scalars)
      (allowed_first r.task.texts x.pair.may_end c s h.among)) [
        | inl ends ↦ absurd (ends_wanted r x.pair c ends s h)
        | inr next ↦ (let same : pair_at next.at ≡ next.next =
            get_or_from_slice_get reached next.at next.next first next.is in (
              next.at,
              slice_get_within reached next.at next.next next.is,
              subst (λ y. y.depth ≤ depth_at i + 1) (sym same) next.near,
              subst (λ y. GoesAt r y s) (sym same) (goes_along r x.pair next.next.pair c next.step s h),
            ))
      ]

  zeroth : pair_at 0 ≡ first
  zeroth = get_or_from_slice_get reached 0 first first is_first

  abbrev WantedText : List ℕ → Type 0
  WantedText s = IsWanted r.task.wanted r.task.texts (IsSelected r.task.criterion (Accepts r.task.code 0))
      (IsSelected r.task.other_criterion (Accepts r.task.other 0)) s

  begin_at : (s : List ℕ) → Goes r.task (state_places r.firsts 0) (state_places r.seconds 0)
      (starts r.task.texts) s → GoesFrom 0 s
  begin_at s h =
      let b = pairs.beginning first is_first in
      subst (λ x. GoesAt r x s) (sym zeroth)
      (subst (λ n. Goes r.task (state_places r.firsts n) (state_places r.seconds first.pair.second)
      first.pair.may_end s) (sym b.0)
      (subst (λ n. Goes r.task (state_places r.firsts 0) (state_places r.seconds n) first.pair.may_end s)
      (sym b.1)
      (subst (λ f. Goes r.task (state_places r.firsts 0) (state_places r.seconds 0) f s) (sym b.2) h)))

  begin_from : (s : List ℕ) → GoesAt r first s
      → Goes r.task (state_places r.firsts 0) (state_places r.seconds 0) (starts r.task.texts) s
  begin_from s h =
      let b = pairs.beginning first is_first in
      subst (λ f. Goes r.task (state_places r.firsts 0) (state_places r.seconds 0) f s) b.2
      (subst (λ n. Goes r.task (state_places r.firsts 0) (state_places r.seconds n) first.pair.may_end s) b.1
      (subst (λ n. Goes r.task (state_places r.firsts n) (state_places r.seconds first.pair.second)
      first.pair.may_end s) b.0 h))

  goes_first : (s : List ℕ) → WantedText s → GoesFrom 0 s
  goes_first s h = begin_at s (wanted_goes r.task (state_places r.firsts 0)
      (state_places r.seconds 0) begin.first.accepts begin.second.accepts s h)

  -- where every pair was followed, no text is wanted
  pub none_wanted : AreFollowed r reached (length reached) → (s : List ℕ) → WantedText s → ⊥
  none_wanted followed s h =
      nothing GoesFrom depth_at (length reached) (length reached) (closed_at (length reached)
      (omega arith) followed) none_at (omega arith) s 0 h.scalars pairs.some (goes_first s h)

  -- where the first `done` pairs were, a text that is wanted is longer than the depth of the next one
  pub none_shorter : (done : ℕ) → done ≤ length reached → AreFollowed r reached done → (s : List ℕ)
      → WantedText s → depth_at done + 1 ≤ length s
  none_shorter done within followed s h =
      longer GoesFrom depth_at done (length reached) (closed_at done within followed) none_at rises_at
      s h.scalars pairs.some
      (ap (λ x. x.depth) zeroth ∙ (pairs.beginning first is_first).3) (goes_first s h)

  -- what was read back from a pair to the first one is wanted
  pub read_back : (s : List ℕ) → all_scalars s ≡ true → GoesAt r first s → WantedText s
  read_back s scalars h = goes_wanted r.task (state_places r.firsts 0)
      (state_places r.seconds 0) begin.first.accepts begin.second.accepts s scalars (begin_from s h)
