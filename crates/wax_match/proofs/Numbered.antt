-- Patterns that get numbers, one after another.
use Rattle.std.proofs.Common.{◌≡◌, ◌↔◌, ◌⊎◌, ℕ, false, List, [], ◌∷◌, ◌++◌, sym, inl, inr}
use Rattle.wax_match.specs.{Numbered.MeansNumbered, declared.encode.ends.Numbered.Numbered}
use Rattle.wax_token.specs.Meaning.{Means}

-- one more
pub numbered_push : (ps : List Numbered) (p : Numbered) (k : ℕ) (s : List ℕ)
    → MeansNumbered (ps ++ p ∷ []) k s
    ↔ (((k ≡ p.number) × Means p.pattern.now false false s) ⊎ MeansNumbered ps k s)
numbered_push [] p k s = (
  (λ m. elim m [ inl h ↦ inl (sym h.0, h.1) | inr h ↦ absurd h ]),
  (λ m. elim m [ inl h ↦ inl (sym h.0, h.1) | inr h ↦ absurd h ]),
)
numbered_push (q ∷ ps) p k s = (
  (λ m. elim m [
    | inl h ↦ inr (inl h)
    | inr h ↦ elim ((numbered_push ps p k s).0 h) [ inl g ↦ inl g | inr g ↦ inr (inr g) ]
  ]),
  (λ m. elim m [
    | inl g ↦ inr ((numbered_push ps p k s).1 (inl g))
    | inr h ↦ elim h [ inl g ↦ inl g | inr g ↦ inr ((numbered_push ps p k s).1 (inr g)) ]
  ]),
)
