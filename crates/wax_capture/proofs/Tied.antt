-- Where the pieces are those of tokens, they split a text as the tokens mean it.
use Rattle.std.proofs.Common.{◌≡◌, ℕ, zero, suc, ◌≤◌, Bool, true, false, ◌||◌, List, [], ◌∷◌, ◌++◌, length}
use Rattle.std.proofs.Common.{take, drop, Option, Some, None, MatchOption, refl, sym, ◌∙◌, ap, subst, inl}
use Rattle.std.proofs.Common.{inr, arith, append-nil, length-append}
use Rattle.std.proofs.lemmas.List.{take-append-drop, drop_all, take_all}
use Rattle.std.proofs.Math.Seq.{take-append_seam, drop-append_seam}
use Rattle.wax_token.specs.Meaning.{LeafMeans, Means, MeansSome, MeansEach}
use Rattle.wax_token.specs.Syntax.{Leaf, literal, class, separator, one, zero_or_more, tree, Tree, leaf}
use Rattle.wax_token.specs.Syntax.{alternation, concatenation, repetition, Trees, none, more}
use Rattle.wax_capture.specs.Captures.{Captured, First, FitsPiece, IsChosen, LeafWay, MeansBranch, MeansByWay}
use Rattle.wax_capture.specs.{Captures.has_more, Pieces.{ArePieces, IsPiece}}
use Rattle.wax_capture.specs.inner.Splits.{CapturedBy, FitsBy, IsChosenBy, Splits}
use Rattle.wax_capture.specs.{Matched.{AreOnly, IsMatched}, declared.piece.Piece.Piece}
use Rattle.wax_lengths.specs.Prefers.{Prefers}
use Rattle.std.specs.Global.{Vec}
use Rattle.wax_query.specs.Matched.{MatchedView}
use Rattle.wax_capture.proofs.Unique.{captured_unique}

-- ---- the ways of a token are all that it means
pub first_meant : {M : Type 0} (k : ℕ) → First M k → M
first_meant zero h = h
first_meant (suc k) h = absurd h

pub branch_meant : {A : Type 0} (ts : Trees A) (k : ℕ) (before after : Bool) (x : List ℕ)
    → MeansBranch ts k before after x → MeansSome ts before after x
branch_meant none k before after x h = absurd h
branch_meant (more t ts) zero before after x h = inl h
branch_meant (more t ts) (suc k) before after x h = inr (branch_meant ts k before after x h)

pub some_branch : {A : Type 0} (ts : Trees A) (before after : Bool) (x : List ℕ) → MeansSome ts before after x
    → (k : ℕ) × MeansBranch ts k before after x
some_branch none before after x h = absurd h
some_branch (more t ts) before after x (inl h) = (0, h)
some_branch (more t ts) before after x (inr h) = let r : (k : ℕ) × MeansBranch ts k before after x =
    some_branch ts before after x h in (suc r.0, r.1)

leaf_meant : (l : Leaf) (k : ℕ) (before after : Bool) (x : List ℕ) → LeafWay l k before after x
    → LeafMeans l before after x
leaf_meant (tree rooted) zero before after x h = h.0
leaf_meant (tree rooted) (suc k) before after x h = first_meant k h
leaf_meant (literal i t) k before after x h = first_meant k h
leaf_meant (class n xs) k before after x h = first_meant k h
leaf_meant separator k before after x h = first_meant k h
leaf_meant one k before after x h = first_meant k h
leaf_meant (zero_or_more e) k before after x h = first_meant k h

leaf_way : (l : Leaf) (before after : Bool) (x : List ℕ) → LeafMeans l before after x
    → (k : ℕ) × LeafWay l k before after x
leaf_way (tree rooted) before after x h = (1, h)
leaf_way (literal i t) before after x h = (0, h)
leaf_way (class n xs) before after x h = (0, h)
leaf_way separator before after x h = (0, h)
leaf_way one before after x h = (0, h)
leaf_way (zero_or_more e) before after x h = (0, h)

pub way_meant : {A : Type 0} (t : Tree A) (k : ℕ) (before after : Bool) (x : List ℕ)
    → MeansByWay t k before after x → Means t before after x
way_meant (leaf a l) k before after x h = leaf_meant l k before after x h
way_meant (alternation a ts) k before after x h = branch_meant ts k before after x h
way_meant (concatenation a ts) k before after x h = first_meant k h
way_meant (repetition a t low high) k before after x h = first_meant k h

pub some_way : {A : Type 0} (t : Tree A) (before after : Bool) (x : List ℕ) → Means t before after x
    → (k : ℕ) × MeansByWay t k before after x
some_way (leaf a l) before after x h = leaf_way l before after x h
some_way (alternation a ts) before after x h = some_branch ts before after x h
some_way (concatenation a ts) before after x h = (0, h)
some_way (repetition a t low high) before after x h = (0, h)

-- ---- a first token and the others
or_true : (b : Bool) → (b || true) ≡ true
or_true true = refl
or_true false = refl

or_false : (b : Bool) → (b || false) ≡ b
or_false true = refl
or_false false = refl

pub each_split : {A : Type 0} (t : Tree A) (ts : Trees A) (before after : Bool) (s : List ℕ)
    → MeansEach (more t ts) before after s →
    (n : ℕ) × (n ≤ length s) × Means t before (after || has_more ts) (take n s)
    × MeansEach ts true after (drop n s)
each_split t none before after s h = (
  length s,
  omega arith,
  subst (λ b. Means t before b (take (length s) s)) (sym (or_false after))
      (subst (Means t before after) (sym (take_all (length s) s (omega arith))) h),
  drop_all (length s) s (omega arith),
)
each_split t (more u us) before after s h = (
  length h.0,
  omega (arith, ap length h.2, length-append h.0 h.1),
  subst (λ b. Means t before b (take (length h.0) s)) (sym (or_true after))
      (subst (Means t before true) (sym (ap (take (length h.0)) h.2 ∙ take-append_seam h.0 h.1)) h.3),
  subst (MeansEach (more u us) true after) (sym (ap (drop (length h.0)) h.2 ∙ drop-append_seam h.0 h.1)) h.4,
)

pub each_join : {A : Type 0} (t : Tree A) (ts : Trees A) (before after : Bool) (s : List ℕ) (n : ℕ)
    → n ≤ length s →
    Means t before (after || has_more ts) (take n s) → MeansEach ts true after (drop n s)
    → MeansEach (more t ts) before after s
each_join t none before after s n le h g =
    let whole : take n s ≡ s = sym (append-nil (take n s)) ∙ ap (λ z. take n s ++ z) (sym g)
    ∙ take-append-drop n s in
    subst (Means t before after) whole (subst (λ b. Means t before b (take n s)) (or_false after) h)
each_join t (more u us) before after s n le h g = (
  take n s,
  drop n s,
  sym (take-append-drop n s),
  subst (λ b. Means t before b (take n s)) (or_true after) h,
  g,
)

-- ---- tokens and their pieces
mutual
  pub means_splits : {A : Type 0} (ts : Trees A) (before after : Bool) (ps : List Piece)
      → ArePieces ts before after ps → (s : List ℕ) → MeansEach ts before after s → Splits ps s
  means_splits none before after [] are s h = h
  means_splits none before after (p ∷ ps) are s h = absurd are
  means_splits (more t ts) before after [] are s h = absurd are
  means_splits (more t ts) before after (p ∷ ps) are s h =
      let r : (n : ℕ) × (n ≤ length s) × Means t before (after || has_more ts) (take n s)
      × MeansEach ts true after (drop n s) = each_split t ts before after s h in
      let w : (k : ℕ) × MeansByWay t k before (after || has_more ts) (take r.0 s) =
      some_way t before (after || has_more ts) (take r.0 s) r.2 in (
        w.0,
        r.0,
        r.1,
        (are.0.ways w.0 (take r.0 s)).0 w.1,
        means_splits ts true after ps are.1 (drop r.0 s) r.3,
      )

  pub splits_means : {A : Type 0} (ts : Trees A) (before after : Bool) (ps : List Piece)
      → ArePieces ts before after ps → (s : List ℕ) → Splits ps s → MeansEach ts before after s
  splits_means none before after [] are s h = h
  splits_means none before after (p ∷ ps) are s h = absurd are
  splits_means (more t ts) before after [] are s h = absurd are
  splits_means (more t ts) before after (p ∷ ps) are s h =
      each_join t ts before after s h.1 h.2 (way_meant t h.0 before (after || has_more ts) (take h.1 s)
      ((are.0.ways h.0 (take h.1 s)).1 h.3)) (splits_means ts true after ps are.1 (drop h.1 s) h.4)

module _ {A : Type 0} (t : Tree A) (ts : Trees A) (before after : Bool) (p : Piece) (ps : List Piece)
    (is : IsPiece t before (after || has_more ts) p) (are : ArePieces ts true after ps) (s : List ℕ) where
  fits_by : (k n : ℕ) → FitsPiece t ts before after s (k, n) → FitsBy p ps s k n
  fits_by k n f = (f.0, (is.ways k (take n s)).0 f.1, means_splits ts true after ps are (drop n s) f.2)

  by_fits : (k n : ℕ) → FitsBy p ps s k n → FitsPiece t ts before after s (k, n)
  by_fits k n f = (f.0, (is.ways k (take n s)).1 f.1, splits_means ts true after ps are (drop n s) f.2)

  pub is_chosen : (n : ℕ) → IsChosenBy p ps s n → IsChosen t ts before after s n
  is_chosen n c = record {
    way = c.way;
    fits = by_fits c.way n c.fits;
    first = λ k m f. c.first k m (fits_by k m f);
    best = λ m f. subst (λ b. Prefers b n m) is.lazy (c.best m (fits_by c.way m f));
  }

-- the captures are those of the tokens
pub is_captured : {A : Type 0} (ts : Trees A) (before after : Bool) (ps : List Piece)
    → ArePieces ts before after ps → (s : List ℕ) (captures : List (List ℕ)) → CapturedBy ps s captures
    → Captured ts before after s captures
is_captured none before after [] are s captures h = h
is_captured none before after (p ∷ ps) are s captures h = absurd are
is_captured (more t ts) before after [] are s captures h = absurd are
is_captured (more t ts) before after (p ∷ ps) are s captures h = (
  h.0,
  is_chosen t ts before after p ps are.0 are.1 s h.0 h.1,
  h.2,
  is_captured ts true after ps are.1 (drop h.0 s) h.2 h.3,
  h.4 ∙ ap (λ z. z ++ h.2) (are.0.captures (take h.0 s)),
)

pub captured_means : {A : Type 0} (ts : Trees A) (before after : Bool) (s : List ℕ) (captures : List (List ℕ))
    → Captured ts before after s captures → MeansEach ts before after s
captured_means none before after s captures h = h.0
captured_means (more t ts) before after s captures h =
    let c = h.1 in
    each_join t ts before after s h.0 c.fits.0
    (way_meant t c.way before (after || has_more ts) (take h.0 s) c.fits.1) c.fits.2

-- a text that the pieces don't split
pub none_means : {A : Type 0} (ts : Trees A) (ps : List Piece) → ArePieces ts false false ps
    → (s : List ℕ) (r : Option (Vec (ℕ × ℕ))) (Q : Vec (ℕ × ℕ) → Type 0) →
    ((places : Vec (ℕ × ℕ)) → r ≡ Some places → ⊥) → MatchOption r (Splits ps s → ⊥) Q
    → MeansEach ts false false s → ⊥
none_means ts ps are s None Q other h m = h (means_splits ts false false ps are s m)
none_means ts ps are s (Some places) Q other h m = other places refl

-- a text that they split
pub some_matched : {A : Type 0} (ts : Trees A) (ps : List Piece) → ArePieces ts false false ps
    → (s : List ℕ) (captures : List (List ℕ)) → CapturedBy ps s captures →
    (m : MatchedView) → m.text ≡ s → m.captures ≡ captures → IsMatched ts s (Some m)
some_matched ts ps are s captures h m text same =
    let captured : Captured ts false false s captures = is_captured ts false false ps are s captures h in (
      captured_means ts false false s captures captured,
      text,
      subst (Captured ts false false s) (sym same) captured,
    )

pub matched_only : {A : Type 0} (ts : Trees A) (s : List ℕ) (m : MatchedView) → IsMatched ts s (Some m)
    → AreOnly ts s (Some m)
matched_only ts s m h = λ captures its. captured_unique ts false false s captures m.captures its h.2
