-- What the grammar keeps of each tree.
use Rattle.std.proofs.Common.{Bool, List, [], ap, false, refl, sym, true, ℕ, ◌∷◌, ◌≡◌, ◌≢◌}
use Rattle.wax_token.specs.Reads.{Around, Place, Reads, ReadsBranches, ReadsGlob, ReadsToken, ReadsTokens}
use Rattle.wax_token.specs.Reads.{Span, in_alternation, in_repetition, start, whole}
use Rattle.wax_token.specs.Syntax.{Tree, Trees, alternation, concatenation, leaf, more, none, repetition}
use Rattle.wax_facts.specs.Orderly.{Flat, FlatEach, FlatSome, Full, FullEach, IsSome, is_token}

module _ (size : ℕ) where
  mutual
    token_full : (t : Tree Span) (around : Around) (first : Bool) (p q : Place)
        → ReadsToken size t around first p q → Full t × Flat t × (is_token t ≡ true)
    token_full (leaf s l) around first p q h = (tt, tt, refl)
    token_full (alternation s ts) around first p q h =
        let r : IsSome ts × FullEach ts × FlatSome ts = branches_full ts h.1 h.2 h.5 in
        ((r.0, r.1), r.2, refl)
    token_full (repetition s t low high) around first p q h = let r : Full t × Flat t =
        glob_full t in_repetition h.1 h.2 h.6 in (r.0, r.1, refl)
    token_full (concatenation s ts) around first p q h = absurd h

    tokens_full : (ts : Trees Span) (around : Around) (first : Bool) (p q : Place)
        → ReadsTokens size ts around first p q → FullEach ts × FlatEach ts
    tokens_full none around first p q h = (tt, tt)
    tokens_full (more t ts) around first p q h =
        let r : Full t × Flat t × (is_token t ≡ true) = token_full t around first p h.0 h.1 in
        let k : FullEach ts × FlatEach ts = tokens_full ts around false h.0 q h.2 in
        ((r.0, k.0), (r.2, r.1, k.1))

    glob_full : (t : Tree Span) (around : Around) (p q : Place)
        → ReadsGlob size t around p q → Full t × Flat t
    glob_full (concatenation s ts) around p q h =
        let k : FullEach ts × FlatEach ts = tokens_full ts around true p q h.1 in
        ((some_tokens ts around p q h.0 h.1, k.0), k.1)
    glob_full (leaf s l) around p q h = absurd h
    glob_full (alternation s ts) around p q h = absurd h
    glob_full (repetition s t low high) around p q h = absurd h

    some_tokens : (ts : Trees Span) (around : Around) (p q : Place) → q.rest ≢ p.rest
        → ReadsTokens size ts around true p q → IsSome ts
    some_tokens none around p q e h = absurd (e (ap (λ z. z.rest) (sym h)))
    some_tokens (more t ts) around p q e h = tt

    branches_full : (ts : Trees Span) (p q : Place) → ReadsBranches size ts p q
        → IsSome ts × FullEach ts × FlatSome ts
    branches_full none p q h = absurd h
    branches_full (more t none) p q h = let r : Full t × Flat t = glob_full t in_alternation p q h in
        (tt, (r.0, tt), (r.1, tt))
    branches_full (more t (more u us)) p q h =
        let r : Full t × Flat t = glob_full t in_alternation p h.0 h.2 in
        let k : IsSome (more u us) × FullEach (more u us) × FlatSome (more u us) =
        branches_full (more u us) h.1 q h.4 in
        (tt, (r.0, k.1), (r.1, k.2))

-- a glob's tree is full and flat
pub reads_full : (e : List ℕ) (t : Tree Span) → Reads e t → Full t × Flat t
reads_full [] (leaf s l) h = (tt, tt)
reads_full [] (alternation s ts) h = absurd (let f : ⊥ = cc in f)
reads_full [] (concatenation s ts) h = absurd (let f : ⊥ = cc in f)
reads_full [] (repetition s t low high) h = absurd (let f : ⊥ = cc in f)
reads_full (c ∷ cs) t h = glob_full _ t whole (start (c ∷ cs)) h.1 h.2
