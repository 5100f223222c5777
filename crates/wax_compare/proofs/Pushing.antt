-- A pair that is added, and what a letter led to.
use Rattle.std.proofs.Common.{◌≡◌, ◌+◌, ◌<◌, ◌≤◌, ◌⊎◌, ◌↔◌, ℕ, List, [], ◌∷◌, ◌++◌, Some, None, length}
use Rattle.std.proofs.Common.{length-append, slice_get, sym, ◌∙◌, ap, subst, inl, inr, arith}
use Rattle.std.proofs.{lemmas.Bool.cases_lt, lemmas.Option.slice_get_within}
use Rattle.std.specs.Char.{IsScalar}
use Rattle.wax_program.specs.declared.instruction.Instruction.{Instruction}
use Rattle.wax_compare.specs.{declared.pairs.StatePair.StatePair, declared.pairs.Reached.Reached}
use Rattle.wax_compare.specs.{declared.search.Search.Search, Cuts.{AreLetters, AreUnlike}}
use Rattle.wax_compare.specs.{inner.Going.GoesOnAmong, inner.Automata.state_places}
use Rattle.wax_compare.specs.inner.Reaching.{AreFollowed, AreReachedPairs, AreSamePairs, CameFrom, GoesAt}
use Rattle.wax_compare.specs.inner.Reaching.{GoesFrom, HasNext, HasTextToPair, IsFollowedBy, IsPairStep}
use Rattle.wax_compare.specs.inner.Reaching.{Readings}
use Rattle.wax_compare.specs.inner.Searching.{AreAutomataOf, IsNextOrNone, IsNextPair, IsSameSearch}
use Rattle.wax_compare.specs.inner.Searching.{KeepsBoth, readings}
use Rattle.wax_compare.specs.inner.Visiting.{AreShallow, EndsAt, Grow, HasPair, IsHeld, IsVisited}
use Rattle.wax_states.specs.States.{LeadOn}
use Rattle.wax_compare.proofs.{Leading.text_along, Steps.{goes_back_along, stands_itself}}
use Rattle.wax_compare.proofs.Visiting.{Later, begin_later, followed_later, get_append, get_end, pairs_later}
use Rattle.wax_compare.proofs.Visiting.{search_later, some_same}

-- ---- a search whose automata grew
pub held_later : (code other : List Instruction) (old new : Search) (reached : List Reached) (at : ℕ)
    → IsHeld code other old reached at → AreAutomataOf code other new → IsSameSearch old new
    → KeepsBoth old new → IsHeld code other new reached at
held_later code other old new reached at held automata same keeps =
    let r = readings code other old in
    let r' = readings code other new in
    let later : Later r r' = search_later code other old new same keeps in
    record {
      automata = automata;
      letters = subst (λ v. AreLetters code other v.items) (sym same.letters) held.letters;
      unlike = subst (λ v. AreUnlike code other v.items) (sym same.letters) held.unlike;
      begin = begin_later r r' later held.begin;
      pairs = pairs_later r r' later reached held.pairs;
      followed = followed_later r r' later reached held.pairs at held.followed;
      shallow = held.shallow;
    }

-- ---- one more pair
module _ (reached : List Reached) (new : Reached) where
  abbrev more : List Reached
  more = reached ++ new ∷ []

  pub grow_push : Grow reached more
  grow_push i x is = get_append reached (new ∷ []) i (slice_get_within reached i x is) ∙ is

  -- an entry is an old one, or the new one
  pub old_or_new : (i : ℕ) (x : Reached) → slice_get more i ≡ Some x → (slice_get reached i ≡ Some x)
      ⊎ ((i ≡ length reached) × (x ≡ new))
  old_or_new i x is = elim (cases_lt i (length reached)) [
    | inl lt ↦ inl (sym (get_append reached (new ∷ []) i lt) ∙ is)
    | inr past ↦ (let within : i < length more = slice_get_within more i x is in
        let last : i ≡ length reached = omega (arith, within, past, length-append reached (new ∷ [])) in
        inr (last, some_same (sym is ∙ ap (slice_get more) last ∙ get_end reached new)))
  ]

  module _ (r : Readings) where
    next_more : (c : ℕ) (x : Reached) → HasNext r reached x c → HasNext r more x c
    next_more c x h =
        record { at = h.at; next = h.next; is = grow_push h.at h.next h.is; near = h.near; step = h.step }

    by_more : (c : ℕ) (x : Reached) → IsFollowedBy r reached x c → IsFollowedBy r more x c
    by_more c x f may = elim (f may) [ inl ends ↦ inl ends | inr next ↦ inr (next_more c x next) ]

    pub visited_more : (at letter : ℕ) → at < length reached → IsVisited r reached at letter
        → IsVisited r more at letter
    visited_more at letter lt v c x is stands =
        by_more c x (v c x (sym (get_append reached (new ∷ []) at lt) ∙ is) stands)

    followed_more : (done : ℕ) → done ≤ length reached → AreFollowed r reached done → AreFollowed r more done
    followed_more done within f i c x lt is scalar =
        by_more c x (f i c x lt (sym (get_append reached (new ∷ []) i (omega (arith, lt, within))) ∙ is)
        scalar)

    came_more : (i : ℕ) (x : Reached) → CameFrom r reached x i → CameFrom r more x i
    came_more i x came = record {
      from = came.from;
      is = grow_push x.before came.from came.is;
      earlier = came.earlier;
      scalar = came.scalar;
      deeper = came.deeper;
      step = came.step;
    }

    module _ (from : Reached) (at : ℕ) (at_is : slice_get reached at ≡ Some from) (letter : ℕ)
        (scalar : IsScalar letter) (pairs : AreReachedPairs r reached) (shallow : AreShallow reached at)
        (pair : IsNextPair r letter from.pair new.pair) (before : new.before ≡ at) (by : new.letter ≡ letter)
        (deeper : new.depth ≡ from.depth + 1) (unwanted : GoesFrom r new.pair [] → ⊥)
        (unknown : HasPair reached new.pair → ⊥) where
      within : at < length reached
      within = slice_get_within reached at from at_is

      step : IsPairStep r from.pair letter new.pair
      step = pair.steps letter (stands_itself r.task.code r.task.other letter)

      came_new : CameFrom r more new (length reached)
      came_new = record {
        from = from;
        is = ap (slice_get more) before ∙ grow_push at from at_is;
        earlier = omega (arith, before, within);
        scalar = subst IsScalar (sym by) scalar;
        deeper = deeper;
        step = subst (λ l. IsPairStep r from.pair l new.pair) (sym by) step;
      }

      low_new : new.depth ≤ length reached
      low_new = omega (arith, deeper, pairs.low at from at_is, within)

      shallow_old : (i : ℕ) (x : Reached) → slice_get reached i ≡ Some x → x.depth ≤ from.depth + 1
      shallow_old i x is = shallow i x from is at_is

      pairs_push : AreReachedPairs r more
      pairs_push = record {
        placed = λ i x is. elim (old_or_new i x is) [
          | inl old ↦ pairs.placed i x old
          | inr e ↦ subst (λ y. (y.pair.first < length r.firsts) × (y.pair.second < length r.seconds))
              (sym e.1) (pair.first, pair.second)
        ];
        led = λ i x is. elim (old_or_new i x is) [
          | inl old ↦ pairs.led i x old
          | inr e ↦ subst (λ y. HasTextToPair r y.pair) (sym e.1)
              (text_along r from.pair letter new.pair scalar (pairs.led at from at_is) step)
        ];
        differ = λ i j x y lt isx isy same. elim (old_or_new j y isy) [
          | inl oldy ↦ elim (old_or_new i x isx) [
            | inl oldx ↦ pairs.differ i j x y lt oldx oldy same
            | inr e ↦ (let low : j < length reached = slice_get_within reached j y oldy in
                let no : ⊥ = omega (arith, lt, e.0, low) in absurd no)
          ]
          | inr e ↦ elim (old_or_new i x isx) [
            | inl oldx ↦ (let has : HasPair reached new.pair =
                record {
                  at = i;
                  entry = x;
                  is = oldx;
                  same = subst (λ z. AreSamePairs x.pair z.pair) e.1 same;
                } in
                unknown has)
            | inr f ↦ (let no : ⊥ = omega (arith, lt, e.0, f.0) in absurd no)
          ]
        ];
        beginning = λ x is. elim (old_or_new 0 x is) [
          | inl old ↦ pairs.beginning x old
          | inr e ↦ (let no : ⊥ = omega (arith, e.0, pairs.some) in absurd no)
        ];
        some = omega (arith, pairs.some, length-append reached (new ∷ []));
        came = λ i x lt is. elim (old_or_new i x is) [
          | inl old ↦ came_more i x (pairs.came i x lt old)
          | inr e ↦ subst (λ n. CameFrom r more x n) (sym e.0)
              (subst (λ y. CameFrom r more y (length reached)) (sym e.1) came_new)
        ];
        none = λ i x is h. elim (old_or_new i x is) [
          | inl old ↦ pairs.none i x old h
          | inr e ↦ unwanted (subst (λ y. GoesAt r y []) e.1 h)
        ];
        low = λ i x is. elim (old_or_new i x is) [
          | inl old ↦ pairs.low i x old
          | inr e ↦ (let d : x.depth ≡ new.depth = ap (λ y. y.depth) e.1 in omega (arith, e.0, d, low_new))
        ];
        rises = λ i j x y le isx isy. elim (old_or_new j y isy) [
          | inl oldy ↦ elim (old_or_new i x isx) [
            | inl oldx ↦ pairs.rises i j x y le oldx oldy
            | inr e ↦ (let lt : j < length reached = slice_get_within reached j y oldy in
                let no : ⊥ = omega (arith, le, e.0, lt) in absurd no)
          ]
          | inr e ↦ (let d : y.depth ≡ new.depth = ap (λ z. z.depth) e.1 in elim (old_or_new i x isx) [
            | inl oldx ↦
                (let low : x.depth ≤ from.depth + 1 = shallow_old i x oldx in omega (arith, low, d, deeper))
            | inr f ↦ (let same : x.depth ≡ new.depth = ap (λ z. z.depth) f.1 in omega (arith, same, d))
          ])
        ];
      }

      shallow_push : AreShallow more at
      shallow_push i x y isx isy =
          let same : from ≡ y = some_same (sym at_is ∙ sym (get_append reached (new ∷ []) at within) ∙ isy) in
          let deep : from.depth ≡ y.depth = ap (λ z. z.depth) same in
          elim (old_or_new i x isx) [
            | inl old ↦ (let low : x.depth ≤ from.depth + 1 = shallow_old i x old in omega (arith, low, deep))
            | inr e ↦ (let d : x.depth ≡ new.depth = ap (λ z. z.depth) e.1 in omega (arith, d, deeper, deep))
          ]

      followed_push : AreFollowed r reached at → AreFollowed r more at
      followed_push f = followed_more at (omega (arith, within)) f

      pub visited_new : IsVisited r more at letter
      visited_new c x is stands may =
          let same : from ≡ x = some_same (sym at_is ∙ sym (get_append reached (new ∷ []) at within) ∙ is) in
          let near : new.depth ≤ x.depth + 1 = let d : from.depth ≡ x.depth = ap (λ z. z.depth) same in
          omega (arith, deeper, d) in
          let next : HasNext r more x c = record {
            at = length reached;
            next = new;
            is = get_end reached new;
            near = near;
            step = subst (λ z. IsPairStep r z.pair c new.pair) same (pair.steps c stands);
          } in
          inr next

pub held_push : (code other : List Instruction) (s : Search) (reached : List Reached) (at : ℕ)
    → IsHeld code other s reached at → (from : Reached) → slice_get reached at ≡ Some from → (letter : ℕ)
    → IsScalar letter → (new : Reached)
    → IsNextPair (readings code other s) letter from.pair new.pair → new.before ≡ at → new.letter ≡ letter
    → new.depth ≡ from.depth + 1 → (GoesFrom (readings code other s) new.pair [] → ⊥)
    → (HasPair reached new.pair → ⊥) → IsHeld code other s (reached ++ new ∷ []) at
held_push code other s reached at held from at_is letter scalar new pair before by deeper unwanted unknown =
    let r = readings code other s in
    record {
      automata = held.automata;
      letters = held.letters;
      unlike = held.unlike;
      begin = held.begin;
      pairs = pairs_push reached new r from at at_is letter scalar held.pairs held.shallow pair before by
          deeper unwanted unknown;
      followed = followed_push reached new r from at at_is letter scalar held.pairs held.shallow pair before
          by deeper unwanted unknown held.followed;
      shallow = shallow_push reached new r from at at_is letter scalar held.pairs held.shallow pair before by
          deeper unwanted unknown;
    }

-- ---- a letter that leads nowhere, or to a pair that was reached
same_step : (r : Readings) (from p q : StatePair) (c : ℕ) → AreSamePairs p q → IsPairStep r from c q
    → IsPairStep r from c p
same_step r from p q c same h = record {
  first = subst (λ n. LeadOn r.task.code c (state_places r.firsts from.first) (state_places r.firsts n))
      (sym same.first) h.first;
  second = subst (λ n. LeadOn r.task.other c (state_places r.seconds from.second) (state_places r.seconds n))
      (sym same.second) h.second;
  among = subst (λ b. (s : List ℕ) → GoesOnAmong r.task.texts from.may_end (c ∷ s)
      ↔ GoesOnAmong r.task.texts b s) (sym same.may_end) h.among;
}

module _ (r : Readings) (reached : List Reached) (from : Reached) (at letter : ℕ)
    (at_is : slice_get reached at ≡ Some from) where
  pub visited_dead : IsNextOrNone r letter from.pair None → IsVisited r reached at letter
  visited_dead dead c x is stands =
      let same : from ≡ x = some_same (sym at_is ∙ is) in
      subst (λ z. IsFollowedBy r reached z c) same (λ may. inl (dead c stands may))

  pub visited_known : (p : StatePair) → IsNextPair r letter from.pair p → HasPair reached p
      → AreShallow reached at → IsVisited r reached at letter
  visited_known p pair has shallow c x is stands may =
      let same : from ≡ x = some_same (sym at_is ∙ is) in
      let next : HasNext r reached x c = record {
        at = has.at;
        next = has.entry;
        is = has.is;
        near = shallow has.at has.entry x has.is is;
        step = subst (λ z. IsPairStep r z.pair c has.entry.pair) same
            (same_step r from.pair has.entry.pair p c has.same (pair.steps c stands));
      } in
      inr next

  pub ends_at : (p : StatePair) → IsNextPair r letter from.pair p → GoesFrom r p []
      → EndsAt r reached at letter
  ends_at p pair h x is = subst (λ z. GoesAt r z (letter ∷ [])) (some_same (sym at_is ∙ is))
      (goes_back_along r from.pair p letter
      (pair.steps letter (stands_itself r.task.code r.task.other letter)) [] h)
