-- Rows of tokens, read from left to right.
use Rattle.std.proofs.Common.{true≢false, ◌≡◌, ◌≢◌, ℕ, ◌≤◌, ◌==◌, Bool, true, false, List, [], ◌∷◌, ◌++◌}
use Rattle.std.proofs.Common.{length, None, codes, refl, sym, ◌∙◌, ap, subst, inl, inr, arith}
use Rattle.std.proofs.lemmas.Bool.Decides.{eqb_tells}
use Rattle.wax_token.specs.Syntax.{Tree, leaf, alternation, concatenation, repetition, Trees, none, more}
use Rattle.wax_token.specs.Words.{trees}
use Rattle.wax_token.specs.Reads.{Span, Place, Past, Around, in_alternation, utf8_len, ReadsTokens}
use Rattle.wax_token.specs.Reads.{ReadsBranches}
use Rattle.wax_parse.specs.inner.Parser.{strip, is_end}
use Rattle.wax_parse.specs.inner.Reading.{is_nil, onto, TokenFrom, TokensFrom, GlobFrom, BranchesFrom, Sole}
use Rattle.wax_parse.specs.inner.Reading.{Unreadable, Begun}
use Rattle.wax_parse.proofs.Runs.{none_some}
use Rattle.wax_parse.proofs.Readings.{heads, after_one, stripped, no_token, span_between, span_from, span_is}
use Rattle.wax_parse.proofs.Trees.{end_sound, end_complete}

onto-none : {A : Type 0} (ts : List (Tree A)) → onto ts none ≡ trees ts
onto-none [] = refl
onto-none (t ∷ ts) = ap (more t) (onto-none ts)

onto-more : {A : Type 0} (ts : List (Tree A)) (t : Tree A) (us : Trees A)
    → onto ts (more t us) ≡ onto (ts ++ t ∷ []) us
onto-more [] t us = refl
onto-more (u ∷ ts) t us = ap (more u) (onto-more ts t us)

is_nil-push : {A : Type 0} (ts : List A) (t : A) → is_nil (ts ++ t ∷ []) ≡ false
is_nil-push [] t = refl
is_nil-push (u ∷ ts) t = refl

-- ---- rows of any kind
pub begun_start : (R : Trees Span → Place → Type 0) → Begun R R []
begun_start R = record { sound = λ vs q h. h; complete = λ us q h. (us, refl, h) }

-- one token more
begun_more : (R S T : Trees Span → Place → Type 0) (ts : List (Tree Span)) (t : Tree Span)
    → ((vs : Trees Span) (q : Place) → T vs q → S (more t vs) q) →
    ((vs : Trees Span) (q : Place) → S vs q → (ws : Trees Span) × (vs ≡ more t ws) × T ws q) → Begun R S ts
    → Begun R T (ts ++ t ∷ [])
begun_more R S T ts t cons uncons g = record {
  sound = λ vs q h. subst (λ z. R z q) (onto-more ts t vs) (g.sound (more t vs) q (cons vs q h));
  complete = λ us q h.
      let k : (vs : Trees Span) × (us ≡ onto ts vs) × S vs q = g.complete us q h in
      let m : (ws : Trees Span) × (k.0 ≡ more t ws) × T ws q = uncons k.0 q k.2 in
      (m.0, k.1 ∙ ap (onto ts) m.1 ∙ onto-more ts t m.0, m.2);
}

-- the last of the row
begun_done : (R S : Trees Span → Place → Type 0) (ts : List (Tree Span)) (vs : Trees Span) (q : Place)
    → Sole S vs q → Begun R S ts → Sole R (onto ts vs) q
begun_done R S ts vs q s g = (
  g.sound vs q s.0,
  λ us r h. (let k : (ws : Trees Span) × (us ≡ onto ts ws) × S ws r = g.complete us r h in
      let e : (k.0 ≡ vs) × (r ≡ q) = s.1 k.0 r k.2 in (k.1 ∙ ap (onto ts) e.0, e.1)),
)

begun_fails : (R S : Trees Span → Place → Type 0) (ts : List (Tree Span)) → Unreadable S
    → Begun R S ts → Unreadable R
begun_fails R S ts s g = λ us r h. let k : (ws : Trees Span) × (us ≡ onto ts ws) × S ws r =
    g.complete us r h in s k.0 r k.2

-- ---- the tokens of a glob
token_more : (size : ℕ) (around : Around) (depth : ℕ) (first : Bool) (p m : Place) (t : Tree Span)
    → Sole (TokenFrom size around depth first p) t m →
    (vs : Trees Span) (q : Place) → TokensFrom size around depth false m vs q
    → TokensFrom size around depth first p (more t vs) q
token_more size around depth first p m t s vs q h = ((m, s.0.0, h.0), h.1, omega (arith, s.0.1, h.2))

token_first : (size : ℕ) (around : Around) (depth : ℕ) (first : Bool) (p m : Place) (t : Tree Span)
    → is_end around p.rest ≡ false → Sole (TokenFrom size around depth first p) t m →
    (vs : Trees Span) (q : Place) → TokensFrom size around depth first p vs q
    → (ws : Trees Span) × (vs ≡ more t ws) × TokensFrom size around depth false m ws q
token_first size around depth first p m t e s none q h =
    absurd (true≢false (sym (end_complete around q h.1) ∙ ap (λ z. is_end around z.rest) (sym h.0) ∙ e))
token_first size around depth first p m t e s (more u us) q h =
    let k : (u ≡ t) × (h.0.0 ≡ m) = s.1 u h.0.0 (h.0.1, omega (arith, h.2)) in (
      us,
      ap (λ z. more z us) k.0,
      (subst (λ z. ReadsTokens size us around false z q) k.1 h.0.2, h.1, omega (arith, h.2)),
    )

pub begun_token : (size : ℕ) (around : Around) (depth : ℕ) (from p m : Place) (ts : List (Tree Span))
    (t : Tree Span) → is_end around p.rest ≡ false →
    Sole (TokenFrom size around depth (is_nil ts) p) t m →
    Begun (TokensFrom size around depth true from) (TokensFrom size around depth (is_nil ts) p) ts →
    Begun (TokensFrom size around depth true from)
    (TokensFrom size around depth (is_nil (ts ++ t ∷ [])) m) (ts ++ t ∷ [])
begun_token size around depth from p m ts t e s g =
    subst (λ b. Begun (TokensFrom size around depth true from) (TokensFrom size around depth b m)
    (ts ++ t ∷ [])) (sym (is_nil-push ts t))
    (begun_more (TokensFrom size around depth true from) (TokensFrom size around depth (is_nil ts) p)
    (TokensFrom size around depth false m) ts t
    (token_more size around depth (is_nil ts) p m t s)
    (token_first size around depth (is_nil ts) p m t e s) g)

-- no tokens are left at the end
tokens_end : (size : ℕ) (around : Around) (depth : ℕ) (first : Bool) (p : Place) → is_end around p.rest ≡ true
    → Sole (TokensFrom size around depth first p) none p
tokens_end size around depth first p e = ((refl, end_sound around p e, omega arith), λ us r h. nothing us r h)
  where
    nothing : (us : Trees Span) (r : Place) → TokensFrom size around depth first p us r
        → (us ≡ none) × (r ≡ p)
    nothing none r h = (refl, sym h.0)
    nothing (more u us) r h = absurd (no_token size around first p u h.0.0 e h.0.1)

tokens_done : (size : ℕ) (around : Around) (depth : ℕ) (from p : Place) (ts : List (Tree Span))
    → is_end around p.rest ≡ true →
    Begun (TokensFrom size around depth true from) (TokensFrom size around depth (is_nil ts) p) ts
    → Sole (TokensFrom size around depth true from) (trees ts) p
tokens_done size around depth from p ts e g =
    subst (λ z. Sole (TokensFrom size around depth true from) z p) (onto-none ts)
    (begun_done (TokensFrom size around depth true from) (TokensFrom size around depth (is_nil ts) p) ts none
    p (tokens_end size around depth (is_nil ts) p e) g)

-- the glob of such tokens
pub glob_sole : (size : ℕ) (around : Around) (depth : ℕ) (from p : Place) (ts : List (Tree Span))
    → is_end around p.rest ≡ true → (p.rest ≡ from.rest → ⊥) →
    utf8_len from.rest ≤ size → utf8_len p.rest ≤ utf8_len from.rest →
    Begun (TokensFrom size around depth true from) (TokensFrom size around depth (is_nil ts) p) ts →
    Sole (GlobFrom size around depth from) (concatenation (span_between size from p) (trees ts)) p
glob_sole size around depth from p ts e some h k g =
    let s : Sole (TokensFrom size around depth true from) (trees ts) p =
    tokens_done size around depth from p ts e g in (
      ((some, s.0.0, span_is size from p h k, s.0.1), s.0.2),
      λ u r w. only s u r w,
    )
  where
    only : Sole (TokensFrom size around depth true from) (trees ts) p
        → (u : Tree Span) (r : Place) → GlobFrom size around depth from u r
        → (u ≡ concatenation (span_between size from p) (trees ts)) × (r ≡ p)
    only s (concatenation a us) r w =
        let x : (us ≡ trees ts) × (r ≡ p) = s.1 us r (w.0.1, w.0.3, w.1) in
        let y : a ≡ span_between size from p =
        span_from size a from r w.0.2 ∙ ap (span_between size from) x.1 in
        ((λ i. concatenation (y i) (x.0 i)), x.1)
    only s (leaf a l) r w = absurd w.0
    only s (alternation a us) r w = absurd w.0
    only s (repetition a t low high) r w = absurd w.0

-- a glob has tokens
glob_tokens : (size : ℕ) (around : Around) (depth : ℕ) (from : Place)
    → ((us : Trees Span) (r : Place) → (r.rest ≢ from.rest) → TokensFrom size around depth true from us r → ⊥)
    → Unreadable (GlobFrom size around depth from)
glob_tokens size around depth from f = λ u r w. no u r w
  where
    no : (u : Tree Span) (r : Place) → GlobFrom size around depth from u r → ⊥
    no (concatenation a us) r w = f us r w.0.0 (w.0.1, w.0.3, w.1)
    no (leaf a l) r w = w.0
    no (alternation a us) r w = w.0
    no (repetition a t low high) r w = w.0

pub glob_empty : (size : ℕ) (around : Around) (depth : ℕ) (from p : Place) (ts : List (Tree Span))
    → is_end around p.rest ≡ true → p.rest ≡ from.rest →
    Begun (TokensFrom size around depth true from) (TokensFrom size around depth (is_nil ts) p) ts
    → Unreadable (GlobFrom size around depth from)
glob_empty size around depth from p ts e same g =
    let s : Sole (TokensFrom size around depth true from) (trees ts) p =
    tokens_done size around depth from p ts e g in
    glob_tokens size around depth from (λ us r some h. some (ap (λ z. z.rest) (s.1 us r h).1 ∙ same))

pub glob_unreadable : (size : ℕ) (around : Around) (depth : ℕ) (from p : Place) (ts : List (Tree Span))
    → is_end around p.rest ≡ false → Unreadable (TokenFrom size around depth (is_nil ts) p) →
    Begun (TokensFrom size around depth true from) (TokensFrom size around depth (is_nil ts) p) ts
    → Unreadable (GlobFrom size around depth from)
glob_unreadable size around depth from p ts e s g =
    glob_tokens size around depth from (λ us r some h. begun_fails (TokensFrom size around depth true from)
    (TokensFrom size around depth (is_nil ts) p) ts (λ vs q k. no vs q k) g us r h)
  where
    no : (vs : Trees Span) (q : Place) → TokensFrom size around depth (is_nil ts) p vs q → ⊥
    no none q h = true≢false (sym (end_complete around q h.1) ∙ ap (λ z. is_end around z.rest) (sym h.0) ∙ e)
    no (more u us) q h = s u h.0.0 (h.0.1, omega (arith, h.2))

-- ---- the branches of an alternation
differ : (k : Place) (s t : List ℕ) → k.rest ≡ 44 ∷ s → k.rest ≡ 125 ∷ t → ⊥
differ k s t e f = let g : ◌≡◌ {A = ℕ} 44 125 = heads 44 125 s t (sym e ∙ f) in omega (arith, g)

-- a branch up to a comma
branch_more : (size depth : ℕ) (p m n : Place) (t : Tree Span) → m.rest ≡ 44 ∷ n.rest
    → n.insensitive ≡ m.insensitive → Sole (GlobFrom size in_alternation depth p) t m →
    (vs : Trees Span) (q : Place) → BranchesFrom size depth n vs q → BranchesFrom size depth p (more t vs) q
branch_more size depth p m n t e f s none q h = absurd h.1
branch_more size depth p m n t e f s (more u us) q h =
    (h.0, (m, n, s.0.0, (e, f), h.1), h.2, omega (arith, s.0.1, h.3))

branch_first : (size depth : ℕ) (p m n : Place) (t : Tree Span) → m.rest ≡ 44 ∷ n.rest
    → n.insensitive ≡ m.insensitive → Sole (GlobFrom size in_alternation depth p) t m →
    (vs : Trees Span) (q : Place) → BranchesFrom size depth p vs q → (ws : Trees Span) × (vs ≡ more t ws)
    × BranchesFrom size depth n ws q
branch_first size depth p m n t e f s none q h = absurd h.1
branch_first size depth p m n t e f s (more u none) q h =
    let k : (u ≡ t) × (h.0 ≡ m) = s.1 u h.0 (h.1, omega (arith, h.3)) in
    absurd (differ m n.rest q.rest e (ap (λ z. z.rest) (sym k.1) ∙ h.2.0))
branch_first size depth p m n t e f s (more u (more v us)) q h =
    let k : (u ≡ t) × (h.1.0 ≡ m) = s.1 u h.1.0 (h.1.2, omega (arith, h.3)) in
    let c : h.1.1 ≡ n = after_one 44 m n h.1.1 e f (subst (λ z. Past (codes ",") z h.1.1) k.1 h.1.3) in (
      more v us,
      ap (λ z. more z (more v us)) k.0,
      (h.0, subst (λ z. ReadsBranches size (more v us) z h.0) c h.1.4, h.2, omega (arith, h.3)),
    )

pub begun_branch : (size depth : ℕ) (from p m n : Place) (ts : List (Tree Span)) (t : Tree Span)
    → m.rest ≡ 44 ∷ n.rest → n.insensitive ≡ m.insensitive → Sole (GlobFrom size in_alternation depth p) t m →
    Begun (BranchesFrom size depth from) (BranchesFrom size depth p) ts
    → Begun (BranchesFrom size depth from) (BranchesFrom size depth n) (ts ++ t ∷ [])
begun_branch size depth from p m n ts t e f s g =
    begun_more (BranchesFrom size depth from) (BranchesFrom size depth p) (BranchesFrom size depth n) ts t
    (branch_more size depth p m n t e f s) (branch_first size depth p m n t e f s) g

-- the last branch
last_branch : (size depth : ℕ) (p m q : Place) (t : Tree Span) → m.rest ≡ 125 ∷ q.rest
    → q.insensitive ≡ m.insensitive → Sole (GlobFrom size in_alternation depth p) t m
    → Sole (BranchesFrom size depth p) (more t none) q
last_branch size depth p m q t e f s = ((m, s.0.0, (e, f), omega (arith, s.0.1)), λ us r h. only us r h)
  where
    only : (us : Trees Span) (r : Place) → BranchesFrom size depth p us r → (us ≡ more t none) × (r ≡ q)
    only none r h = absurd h.1
    only (more u none) r h =
        let k : (u ≡ t) × (h.0 ≡ m) = s.1 u h.0 (h.1, omega (arith, h.3)) in
        (ap (λ z. more z none) k.0, after_one 125 m q r e f (subst (λ z. Past (codes "}") z r) k.1 h.2))
    only (more u (more v us)) r h =
        let k : (u ≡ t) × (h.1.0 ≡ m) = s.1 u h.1.0 (h.1.2, omega (arith, h.3)) in
        absurd (differ m h.1.1.rest q.rest (ap (λ z. z.rest) (sym k.1) ∙ h.1.3.0) e)

pub branches_sole : (size depth : ℕ) (from p m q : Place) (ts : List (Tree Span)) (t : Tree Span) → m.rest
    ≡ 125 ∷ q.rest → q.insensitive ≡ m.insensitive → Sole (GlobFrom size in_alternation depth p) t m →
    Begun (BranchesFrom size depth from) (BranchesFrom size depth p) ts
    → Sole (BranchesFrom size depth from) (trees (ts ++ t ∷ [])) q
branches_sole size depth from p m q ts t e f s g =
    subst (λ z. Sole (BranchesFrom size depth from) z q) (onto-more ts t none ∙ onto-none (ts ++ t ∷ []))
    (begun_done (BranchesFrom size depth from) (BranchesFrom size depth p) ts (more t none) q
    (last_branch size depth p m q t e f s) g)

pub branches_unreadable : (size depth : ℕ) (from p : Place) (ts : List (Tree Span))
    → Unreadable (GlobFrom size in_alternation depth p) →
    Begun (BranchesFrom size depth from) (BranchesFrom size depth p) ts
    → Unreadable (BranchesFrom size depth from)
branches_unreadable size depth from p ts s g =
    begun_fails (BranchesFrom size depth from) (BranchesFrom size depth p) ts (λ us r h. no us r h) g
  where
    no : (us : Trees Span) (r : Place) → BranchesFrom size depth p us r → ⊥
    no none r h = h.1
    no (more u none) r h = s u h.0 (h.1, omega (arith, h.3))
    no (more u (more v us)) r h = s u h.1.0 (h.1.2, omega (arith, h.3))

-- neither a comma nor a closing brace
pub branches_unclosed : (size depth : ℕ) (from p m : Place) (ts : List (Tree Span)) (t : Tree Span)
    → strip 125 m.rest ≡ None → strip 44 m.rest ≡ None → Sole (GlobFrom size in_alternation depth p) t m →
    Begun (BranchesFrom size depth from) (BranchesFrom size depth p) ts
    → Unreadable (BranchesFrom size depth from)
branches_unclosed size depth from p m ts t e f s g =
    begun_fails (BranchesFrom size depth from) (BranchesFrom size depth p) ts (λ us r h. no us r h) g
  where
    no : (us : Trees Span) (r : Place) → BranchesFrom size depth p us r → ⊥
    no none r h = h.1
    no (more u none) r h =
        let k : (u ≡ t) × (h.0 ≡ m) = s.1 u h.0 (h.1, omega (arith, h.3)) in
        none_some r.rest (sym e ∙ ap (λ z. strip 125 z.rest) (sym k.1) ∙ ap (strip 125) h.2.0
        ∙ stripped 125 m r.rest)
    no (more u (more v us)) r h =
        let k : (u ≡ t) × (h.1.0 ≡ m) = s.1 u h.1.0 (h.1.2, omega (arith, h.3)) in
        none_some h.1.1.rest (sym f ∙ ap (λ z. strip 44 z.rest) (sym k.1) ∙ ap (strip 44) h.1.3.0
        ∙ stripped 44 m h.1.1.rest)

-- what asking for the length tells of the list
pub nil_asked : {A : Type 0} (xs : List A) (b : Bool) → b ≡ (length xs == 0) → b ≡ is_nil xs
nil_asked [] b e = e
nil_asked (x ∷ xs) b e =
    e ∙ elim (eqb_tells (length (x ∷ xs)) 0) [ inl h ↦ absurd (omega (arith, h.1)) | inr h ↦ h.0 ]
