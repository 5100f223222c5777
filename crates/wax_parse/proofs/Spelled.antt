-- Where the tokens of a spelled tree stand, and that no literal of it holds a `/`.
use Rattle.std.proofs.Common.{◌≡◌, ℕ, ◌+◌, ◌≤◌, Bool, true, false, List, [], ◌∷◌, ◌++◌, length, chars, codes}
use Rattle.std.proofs.Common.{◌||◌, ◌==◌, sym, ap, subst, arith}
use Rattle.std.specs.{Str.IsUtf8, List.list_any}
use Rattle.wax_token.specs.Syntax.{Leaf, literal, class, separator, one, zero_or_more, tree, Tree, leaf}
use Rattle.wax_token.specs.Syntax.{alternation, concatenation, repetition, Trees, none, more}
use Rattle.wax_token.specs.{Words.annotation_of, Meaning.HasNoSlash}
use Rattle.wax_token.specs.Reads.{Span, Place, utf8_len, is_one_of, Past, Flags, Around, in_alternation}
use Rattle.wax_token.specs.Reads.{whole, start, ReadsLeaf, ReadsToken, ReadsTokens, ReadsGlob, ReadsBranches}
use Rattle.wax_token.specs.Reads.{Reads}
use Rattle.wax_token.specs.Spelled.{span_end, LiesBetween, LieApart, LeafHasNoSlash, LiteralsHaveNoSlash}
use Rattle.wax_token.specs.Spelled.{AllHaveNoSlash}
use Rattle.wax_token.proofs.Bytes.{bytes_len}
use Rattle.wax_parse.proofs.{Runs.or_false, Flags.flags_text, Texts.end_shorter}

-- ---- spans

past_shorter : (cs : List ℕ) (p q : Place) → Past cs p q → utf8_len q.rest ≤ utf8_len p.rest
past_shorter cs p q h = end_shorter p.rest q.rest (cs, h.0)

flags_shorter : (p q : Place) → Flags p q → utf8_len q.rest ≤ utf8_len p.rest
flags_shorter p q h = end_shorter p.rest q.rest (flags_text p q h)

module _ (size : ℕ) where
  -- where a token begins and ends
  token_ends : (t : Tree Span) (around : Around) (first : Bool) (p q : Place)
      → ReadsToken size t around first p q →
      span_end (annotation_of t) + utf8_len q.rest ≡ size
  token_ends (leaf s l) around first p q h = omega (arith, h.3)
  token_ends (alternation s ts) around first p q h = omega (arith, h.7)
  token_ends (repetition s t low high) around first p q h = omega (arith, h.9)
  token_ends (concatenation s ts) around first p q h = absurd h

  glob_ends : (t : Tree Span) (around : Around) (p q : Place) → ReadsGlob size t around p q →
      span_end (annotation_of t) + utf8_len q.rest ≡ size
  glob_ends (concatenation s ts) around p q h = omega (arith, h.2)
  glob_ends (leaf s l) around p q h = absurd h
  glob_ends (alternation s ts) around p q h = absurd h
  glob_ends (repetition s t low high) around p q h = absurd h

  token_shorter : (t : Tree Span) (around : Around) (first : Bool) (p q : Place)
      → ReadsToken size t around first p q →
      utf8_len q.rest ≤ utf8_len p.rest
  token_shorter (leaf s l) around first p q h = omega (arith, h.3)
  token_shorter (alternation s ts) around first p q h = omega (arith, h.7)
  token_shorter (repetition s t low high) around first p q h = omega (arith, h.9)
  token_shorter (concatenation s ts) around first p q h = absurd h

  tokens_shorter : (ts : Trees Span) (around : Around) (first : Bool) (p q : Place) →
      ReadsTokens size ts around first p q → utf8_len q.rest ≤ utf8_len p.rest
  tokens_shorter none around first p q h = omega (arith, ap (λ z. utf8_len z.rest) h)
  tokens_shorter (more t ts) around first p q h =
      omega (arith, token_shorter t around first p h.0 h.1, tokens_shorter ts around false h.0 q h.2)

  glob_shorter : (t : Tree Span) (around : Around) (p q : Place) → ReadsGlob size t around p q →
      utf8_len q.rest ≤ utf8_len p.rest
  glob_shorter (concatenation s ts) around p q h = omega (arith, h.2)
  glob_shorter (leaf s l) around p q h = absurd h
  glob_shorter (alternation s ts) around p q h = absurd h
  glob_shorter (repetition s t low high) around p q h = absurd h

  branches_shorter : (ts : Trees Span) (p q : Place) → ReadsBranches size ts p q
      → utf8_len q.rest ≤ utf8_len p.rest
  branches_shorter none p q h = absurd h
  branches_shorter (more t none) p q h = glob_shorter t in_alternation p q h
  branches_shorter (more t (more u us)) p q h =
      omega (
        arith,
        glob_shorter t in_alternation p h.0 h.2,
        past_shorter (codes ",") h.0 h.1 h.3,
        branches_shorter (more u us) h.1 q h.4,
      )

  mutual
    token_lies : (t : Tree Span) (around : Around) (first : Bool) (p q : Place)
        → ReadsToken size t around first p q →
        (from to : ℕ) → from + utf8_len p.rest ≤ size → size ≤ to + utf8_len q.rest → LiesBetween from to t
    token_lies (leaf s l) around first p q h from to a b = (omega (arith, h.3, a), omega (arith, h.3, b))
    token_lies (alternation s ts) around first p q h from to a b = (
      (omega (arith, h.7, a), omega (arith, h.7, b)),
      branches_lie ts h.1 h.2 h.5 s.0 (span_end s)
          (omega (arith, h.7, flags_shorter p h.0 h.3, past_shorter (codes "{") h.0 h.1 h.4))
          (omega (arith, h.7, past_shorter (codes "}") h.2 q h.6)),
    )
    token_lies (repetition s t low high) around first p q h from to a b = (
      (omega (arith, h.9, a), omega (arith, h.9, b)),
      glob_lies t _ h.1 h.2 h.6 s.0 (span_end s)
          (omega (arith, h.9, flags_shorter p h.0 h.4, past_shorter (codes "<") h.0 h.1 h.5))
          (omega (arith, h.9, past_shorter (h.3 ++ codes ">") h.2 q h.8)),
    )
    token_lies (concatenation s ts) around first p q h from to a b = absurd h

    tokens_lie : (ts : Trees Span) (around : Around) (first : Bool) (p q : Place) →
        ReadsTokens size ts around first p q → (from to : ℕ) → from + utf8_len p.rest ≤ size →
        size ≤ to + utf8_len q.rest → LieApart from to ts
    tokens_lie none around first p q h from to a b = tt
    tokens_lie (more t ts) around first p q h from to a b = (
      token_lies t around first p h.0 h.1 from to a
          (omega (arith, b, tokens_shorter ts around false h.0 q h.2)),
      tokens_lie ts around false h.0 q h.2 (span_end (annotation_of t)) to
          (omega (arith, token_ends t around first p h.0 h.1)) b,
    )

    glob_lies : (t : Tree Span) (around : Around) (p q : Place) → ReadsGlob size t around p q →
        (from to : ℕ) → from + utf8_len p.rest ≤ size → size ≤ to + utf8_len q.rest → LiesBetween from to t
    glob_lies (concatenation s ts) around p q h from to a b = (
      (omega (arith, h.2, a), omega (arith, h.2, b)),
      tokens_lie ts around true p q h.1 s.0 (span_end s) (omega (arith, h.2)) (omega (arith, h.2)),
    )
    glob_lies (leaf s l) around p q h from to a b = absurd h
    glob_lies (alternation s ts) around p q h from to a b = absurd h
    glob_lies (repetition s t low high) around p q h from to a b = absurd h

    branches_lie : (ts : Trees Span) (p q : Place) → ReadsBranches size ts p q →
        (from to : ℕ) → from + utf8_len p.rest ≤ size → size ≤ to + utf8_len q.rest → LieApart from to ts
    branches_lie none p q h from to a b = absurd h
    branches_lie (more t none) p q h from to a b = (glob_lies t in_alternation p q h from to a b, tt)
    branches_lie (more t (more u us)) p q h from to a b =
        let after = past_shorter (codes ",") h.0 h.1 h.3 in (
          glob_lies t in_alternation p h.0 h.2 from to a
              (omega (arith, b, after, branches_shorter (more u us) h.1 q h.4)),
          branches_lie (more u us) h.1 q h.4 (span_end (annotation_of t)) to
              (omega (arith, after, glob_ends t in_alternation p h.0 h.2)) b,
        )

lies : (e : List ℕ) (t : Tree Span) → Reads e t → LiesBetween 0 (utf8_len e) t
lies [] t h = subst (LiesBetween 0 0) (sym h) (omega arith, omega arith)
lies (c ∷ e) t h =
    glob_lies (utf8_len (c ∷ e)) t whole (start (c ∷ e)) h.1 h.2 0 (utf8_len (c ∷ e))
    (omega arith) (omega arith)

pub lies_within : (bs : List ℕ) (t : Tree Span) → IsUtf8 bs → Reads (chars bs) t → LiesBetween 0 (length bs) t
lies_within bs t u h = subst (λ n. LiesBetween 0 n t) (sym (bytes_len bs u)) (lies (chars bs) t h)

-- ---- literals

has_no_slash : (t : List ℕ) → list_any (is_one_of (47 ∷ 92 ∷ [])) t ≡ false → HasNoSlash t
has_no_slash [] e = tt
has_no_slash (c ∷ t) e =
    let k : ((47 == c) || ((92 == c) || false) ≡ false) × (list_any (is_one_of (47 ∷ 92 ∷ [])) t ≡ false) =
    or_false (is_one_of (47 ∷ 92 ∷ []) c) (list_any (is_one_of (47 ∷ 92 ∷ [])) t) e in
    let n : (47 == c) ≡ false = (or_false (47 == c) ((92 == c) || false) k.0).0 in
    ((λ f. (let g : (47 == c) ≡ true = ap (λ z. 47 == z) f in cc)), has_no_slash t k.1)

leaf_slashless : (around : Around) (first : Bool) (l : Leaf) (p q : Place) → ReadsLeaf around first l p q →
    LeafHasNoSlash l
leaf_slashless around first (literal insensitive t) p q h = has_no_slash t h.1.1
leaf_slashless around first (class negated xs) p q h = tt
leaf_slashless around first separator p q h = tt
leaf_slashless around first one p q h = tt
leaf_slashless around first (zero_or_more e) p q h = tt
leaf_slashless around first (tree rooted) p q h = tt

module _ (size : ℕ) where
  mutual
    token_slashless : (t : Tree Span) (around : Around) (first : Bool) (p q : Place) →
        ReadsToken size t around first p q → LiteralsHaveNoSlash t
    token_slashless (leaf s l) around first p q h = leaf_slashless around first l h.0 q h.2
    token_slashless (alternation s ts) around first p q h = branches_slashless ts h.1 h.2 h.5
    token_slashless (repetition s t low high) around first p q h = glob_slashless t _ h.1 h.2 h.6
    token_slashless (concatenation s ts) around first p q h = absurd h

    tokens_slashless : (ts : Trees Span) (around : Around) (first : Bool) (p q : Place) →
        ReadsTokens size ts around first p q → AllHaveNoSlash ts
    tokens_slashless none around first p q h = tt
    tokens_slashless (more t ts) around first p q h =
        (token_slashless t around first p h.0 h.1, tokens_slashless ts around false h.0 q h.2)

    glob_slashless : (t : Tree Span) (around : Around) (p q : Place) → ReadsGlob size t around p q →
        LiteralsHaveNoSlash t
    glob_slashless (concatenation s ts) around p q h = tokens_slashless ts around true p q h.1
    glob_slashless (leaf s l) around p q h = absurd h
    glob_slashless (alternation s ts) around p q h = absurd h
    glob_slashless (repetition s t low high) around p q h = absurd h

    branches_slashless : (ts : Trees Span) (p q : Place) → ReadsBranches size ts p q → AllHaveNoSlash ts
    branches_slashless none p q h = absurd h
    branches_slashless (more t none) p q h = (glob_slashless t in_alternation p q h, tt)
    branches_slashless (more t (more u us)) p q h =
        (glob_slashless t in_alternation p h.0 h.2, branches_slashless (more u us) h.1 q h.4)

pub slashless : (e : List ℕ) (t : Tree Span) → Reads e t → LiteralsHaveNoSlash t
slashless [] t h = subst LiteralsHaveNoSlash (sym h) tt
slashless (c ∷ e) t h = glob_slashless (utf8_len (c ∷ e)) t whole (start (c ∷ e)) h.1 h.2
