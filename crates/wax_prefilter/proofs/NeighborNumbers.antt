-- Numbers of neighboring bytes.
use Rattle.std.proofs.Common.{◌≡◌, ℕ, ◌+◌, ◌-◌, ◌<◌, ◌≤◌, Bool, true, false, List, ◌++◌, length, get_or, set}
use Rattle.std.proofs.{Common.{slice_index, sym, ◌∙◌, ap, inl, inr, arith}, lemmas.Bool.cases_eq}
use Rattle.std.proofs.lemmas.List.{get_or-set_same, get_or-set_other}
use Rattle.wax_prefilter.proofs.Pairs.{byte_within, long_within}
use Rattle.wax_prefilter.specs.inner.Neighbors.{AreNeighbors, neighbors_number}

abbrev pub number_at : List ℕ → ℕ → ℕ
number_at text k = neighbors_number (slice_index text k) (slice_index text (k + 1))

-- what is known of the neighbors before a position
abbrev pub AreNeighborsTo : ℕ → List ℕ → List Bool → Type 0
AreNeighborsTo position text flags = (k : ℕ) → k + 1 < position → get_or flags (number_at text k) false ≡ true

pub neighbors_more : (text : List ℕ) (flags : List Bool) (position number : ℕ)
    → number < length flags → 1 ≤ position
    → number ≡ neighbors_number (slice_index text (position - 1)) (slice_index text position)
    → AreNeighborsTo position text flags → AreNeighborsTo (position + 1) text (set flags number true)
neighbors_more text flags position number inside past is before k lt =
    elim (cases_eq (number_at text k) number) [
      | inl same ↦ ap (λ i. get_or (set flags number true) i false) same
          ∙ get_or-set_same flags number true false inside
      | inr other ↦ get_or-set_other flags number (number_at text k) true false other
          ∙ before k (elim (cases_eq (k + 1) position) [
            | inl last ↦ absurd (other
                ((λ i. neighbors_number (slice_index text (here last i)) (slice_index text (last i)))
                ∙ sym is))
            | inr earlier ↦ omega (arith, lt, earlier)
          ])
    ]
  where
    here : k + 1 ≡ position → k ≡ position - 1
    here e = omega (arith, e)

-- the neighbors in a part are neighbors in the whole
pub neighbors_within : (text x y z : List ℕ) (flags : List Bool) (k : ℕ) → text ≡ x ++ (y ++ z)
    → AreNeighbors text flags → k + 1 < length y
    → get_or flags (number_at y k) false ≡ true
neighbors_within text x y z flags k e are lt =
    let first = byte_within text x y z k e (omega (arith, lt)) in
    let next : (length x + k) + 1 ≡ length x + (k + 1) = omega arith in
    let second : get_or text ((length x + k) + 1) 0 ≡ get_or y (k + 1) 0 =
    ap (λ i. get_or text i 0) next ∙ byte_within text x y z (k + 1) e lt in
    sym (λ i. get_or flags (neighbors_number (first i) (second i)) false)
    ∙ are (length x + k) (omega (arith, lt, long_within text x y z e))
