-- A pair that was followed by every letter.
use Rattle.std.proofs.Common.{◌≡◌, ◌+◌, ◌<◌, ◌≤◌, ℕ, List, Some, length, get_or, slice_get, slice_index, sym}
use Rattle.std.proofs.{Common.{◌∙◌, subst, inl, inr, arith}, lemmas.Bool.cases_lt, lemmas.List.get_or_default}
use Rattle.std.proofs.lemmas.Option.{slice_get-get_or, slice_get_cases, slice_get_within}
use Rattle.wax_program.specs.declared.instruction.Instruction.{Instruction}
use Rattle.wax_compare.specs.{declared.pairs.Reached.Reached, declared.search.Search.Search, Cuts.StandsFor}
use Rattle.wax_compare.specs.{inner.Reaching.AreFollowed, inner.Searching.{IsSameSearch, readings}}
use Rattle.wax_compare.specs.inner.Visiting.{AreShallow, Grow, IsHeld, IsVisited}

module _ (code other : List Instruction) (s : Search) (reached : List Reached) (at : ℕ)
    (held : IsHeld code other s reached at)
    (visited : (k : ℕ) → k < length s.letters.items
    → IsVisited (readings code other s) reached at (slice_index s.letters.items k)) where
  followed_all : AreFollowed (readings code other s) reached (at + 1)
  followed_all i c x lt is scalar = elim (cases_lt i at) [
    | inl less ↦ held.followed i c x less is scalar
    | inr past ↦ (let same : i ≡ at = omega (arith, lt, past) in
        let found = held.letters c scalar in
        let letter : slice_index s.letters.items found.1.0 ≡ found.0 =
        get_or_default s.letters.items found.1.0 0 found.0 found.1.1 ∙ found.1.2 in
        visited found.1.0 found.1.1 c x (subst (λ n. slice_get reached n ≡ Some x) same is)
        (subst (λ l. StandsFor code other l c) (sym letter) found.2))
  ]

  shallow_next : AreShallow reached (at + 1)
  shallow_next i x y isx isy =
      let within : at + 1 < length reached = slice_get_within reached (at + 1) y isy in
      let here : slice_get reached at ≡ Some (get_or reached at x) =
      slice_get-get_or reached at x (omega (arith, within)) in
      let low : x.depth ≤ (get_or reached at x).depth + 1 = held.shallow i x (get_or reached at x) isx here in
      let up : (get_or reached at x).depth ≤ y.depth =
      held.pairs.rises at (at + 1) (get_or reached at x) y (omega arith) here isy in
      omega (arith, low, up)

  pub held_next : IsHeld code other s reached (at + 1)
  held_next = record {
    automata = held.automata;
    letters = held.letters;
    unlike = held.unlike;
    begin = held.begin;
    pairs = held.pairs;
    followed = followed_all;
    shallow = shallow_next;
  }

pub grown_within : (old new : List Reached) (at : ℕ) → Grow old new → at < length old → at < length new
grown_within old new at grow lt = elim (slice_get_cases old at).1 [
  | inl h ↦ slice_get_within new at h.0 (grow at h.0 h.2)
  | inr h ↦ (let no : ⊥ = omega (arith, lt, h.0) in absurd no)
]

pub same_on : (old mid new : Search) → IsSameSearch old mid → IsSameSearch mid new → IsSameSearch old new
same_on old mid new f g = record {
  wanted = g.wanted ∙ f.wanted;
  texts = g.texts ∙ f.texts;
  letters = g.letters ∙ f.letters;
  first_criterion = g.first_criterion ∙ f.first_criterion;
  second_criterion = g.second_criterion ∙ f.second_criterion;
}
