-- How the conflicts of a set are found, pair by pair.
use Rattle.std.proofs.Common.{◌≡◌, ◌↔◌, ◌<◌, ◌≤◌, ◌+◌, ◌++◌, ◌∷◌, ◌∙◌, ◌⊎◌, ℕ, zero, suc, List, [], Some}
use Rattle.std.proofs.Common.{None, String, ap, arith, chars, get_or, inl, inr, length, length-append, refl}
use Rattle.std.proofs.{Common.{slice_get, string_bytes, subst, sym}, lemmas.Bool.cases_lt}
use Rattle.std.proofs.lemmas.Option.{none-some, same_Some, slice_get_read, slice_get_within}
use Rattle.std.specs.declared.alloc.Global.{Global}
use Rattle.wax_compare.proofs.Answering.{answer_as}
use Rattle.wax_compare.specs.{Comparison.{IsAnswer, IsShortest, IsWanted}, Limit.KeepsLimit}
use Rattle.wax_compare.specs.declared.wanted.Comparison.{Comparison}
use Rattle.wax_compare.specs.declared.wanted.Comparison.TheVariants.{Unknown}
use Rattle.wax_compare.specs.declared.wanted.Criterion.TheVariants.{Accepted}
use Rattle.wax_compare.specs.declared.wanted.Texts.TheVariants.{Paths}
use Rattle.wax_compare.specs.declared.wanted.Wanted.TheVariants.{Both}
use Rattle.wax_program.specs.Machine.{Accepts}
use Rattle.wax_token.specs.{Cost.{branches_cost, cost, program_length}, Reads.Span, Syntax.Tree}
use Rattle.wax_token.specs.Words.{listed, trees}
use Rattle.wax_set.specs.Conflicts.{AreConflicts, IsConflict, IsEarlierPair, IsSharedPath, PatternPair}
use Rattle.wax_set.specs.{Conflicts.{pair_of, pattern_total}, Sets.{BranchMeans, MeansAt, MeansText}}
use Rattle.wax_set.specs.declared.set.conflicts.CompiledPattern.{CompiledPattern}
use Rattle.wax_set.specs.declared.set.conflicts.Conflict.{Conflict}
use Rattle.wax_set.specs.inner.Conflicts.{AreCompiled, AreConflictsBefore, IsCompiledPattern, IsPairDecided}
use Rattle.wax_set.specs.{inner.Conflicts.set_tree, inner.Edges.HasEdges}

-- ---- lists to which one item is added
module _ {X : Type 0} where
  last_item : (xs : List X) (y : X) → slice_get (xs ++ y ∷ []) (length xs) ≡ Some y
  last_item [] y = refl
  last_item (x ∷ xs) y = last_item xs y

  kept_item : (xs : List X) (y : X) (k : ℕ) (z : X) → slice_get xs k ≡ Some z
      → slice_get (xs ++ y ∷ []) k ≡ Some z
  kept_item [] y k z e = absurd (none-some z e)
  kept_item (x ∷ xs) y zero z e = e
  kept_item (x ∷ xs) y (suc k) z e = kept_item xs y k z e

  -- an item was there, or is the one that was added, at the end
  added_item : (xs : List X) (y : X) (k : ℕ) (z : X) → slice_get (xs ++ y ∷ []) k ≡ Some z
      → (slice_get xs k ≡ Some z) ⊎ ((k ≡ length xs) × (y ≡ z))
  added_item [] y zero z e = inr (refl, same_Some y z e)
  added_item [] y (suc k) z e = absurd (none-some z e)
  added_item (x ∷ xs) y zero z e = inl e
  added_item (x ∷ xs) y (suc k) z e = elim (added_item xs y k z e) [
    | inl was ↦ inl was
    | inr (at, same) ↦ inr (ap suc at, same)
  ]

-- ---- the patterns of a set

branch_at : (ts : List (Tree Span)) (k : ℕ) (t : Tree Span) → slice_get ts k ≡ Some t
    → (s : List ℕ) → BranchMeans (trees ts) k s ↔ MeansText t s
branch_at [] k t e s = absurd (none-some t e)
branch_at (u ∷ ts) zero t e s =
    subst (λ v. MeansText u s ↔ MeansText v s) (same_Some u t e) ((λ m. m), (λ m. m))
branch_at (u ∷ ts) (suc k) t e s = branch_at ts k t e s

-- a pattern that matches something is there
branch_within : (ts : List (Tree Span)) (k : ℕ) (s : List ℕ) → BranchMeans (trees ts) k s → k < length ts
branch_within [] k s m = absurd m
branch_within (t ∷ ts) zero s m = omega arith
branch_within (t ∷ ts) (suc k) s m = omega (arith, branch_within ts k s m)

total_is : (ts : List (Tree Span)) → length (listed (trees ts)) ≡ length ts
total_is [] = refl
total_is (t ∷ ts) = ap suc (total_is ts)

pub is_within : (ts : List (Tree Span)) (k : ℕ) → k < length ts → k < pattern_total (set_tree ts)
is_within ts k lt = omega (arith, lt, total_is ts)

cost_within : (ts : List (Tree Span)) (k : ℕ) (t : Tree Span) → slice_get ts k ≡ Some t
    → cost t ≤ branches_cost (trees ts)
cost_within [] k t e = absurd (none-some t e)
cost_within (u ∷ ts) zero t e = let same : cost u ≡ cost t = ap cost (same_Some u t e) in omega (arith, same)
cost_within (u ∷ ts) (suc k) t e = omega (arith, cost_within ts k t e)

-- a pattern of a set that fits does so, too
pub branch_fits : (ts : List (Tree Span)) (k : ℕ) (t : Tree Span) → slice_get ts k ≡ Some t
    → program_length (set_tree ts) ≤ 1048576 → program_length t ≤ 1048576
branch_fits ts k t is fits = omega (arith, fits, cost_within ts k t is)

-- the first patterns, so many of them, are compiled
pub record AreFirstCompiled (ts : List (Tree Span)) (total : ℕ) (compiled : List CompiledPattern)
    : Type 0 where
  pub total_is : length compiled ≡ total
  pub within : total ≤ length ts
  pub each : (k : ℕ) (pattern : CompiledPattern) → slice_get compiled k ≡ Some pattern
      → IsCompiledPattern (MeansAt (set_tree ts) k) pattern

pub one_compiled : (ts : List (Tree Span)) (i : ℕ) (t : Tree Span) (old new : List CompiledPattern)
    (pattern : CompiledPattern) → slice_get ts i ≡ Some t → new ≡ old ++ pattern ∷ []
    → IsCompiledPattern (MeansText t) pattern → AreFirstCompiled ts i old → AreFirstCompiled ts (i + 1) new
one_compiled ts i t old new pattern is grown compiled first = record {
  total_is = omega (arith, ap length grown, length-append old (pattern ∷ []), first.total_is);
  within = omega (arith, slice_get_within ts i t is);
  each = λ k other at. elim (added_item old pattern k other (sym (ap (λ ps. slice_get ps k) grown) ∙ at)) [
    | inl was ↦ first.each k other was
    | inr (last, same) ↦
        let here : slice_get ts k ≡ Some t = ap (slice_get ts) (last ∙ first.total_is) ∙ is in
        let means = branch_at ts k t here in
        subst (IsCompiledPattern (MeansAt (set_tree ts) k)) same (record {
          accepts = λ s. (
            (λ a. (means s).1 ((compiled.accepts s).0 a)),
            (λ m. (compiled.accepts s).1 ((means s).0 m)),
          );
          edges = λ s m. compiled.edges s ((means s).0 m);
        })
  ];
}

pub all_compiled : (ts : List (Tree Span)) (i : ℕ) (compiled : List CompiledPattern) → length ts ≤ i
    → AreFirstCompiled ts i compiled → AreCompiled ts compiled
all_compiled ts i compiled past first = record {
  total = omega (arith, past, first.within, first.total_is);
  each = first.each;
}

-- ---- one pair

pub pattern_at : (ts : List (Tree Span)) (compiled : List CompiledPattern) (k : ℕ) (pattern : CompiledPattern)
    → AreCompiled ts compiled → k < length ts → pattern ≡ get_or compiled k pattern
    → IsCompiledPattern (MeansAt (set_tree ts) k) pattern
pattern_at ts compiled k pattern are lt is = are.each k pattern
    (slice_get_read compiled (length compiled) k pattern refl (omega (arith, lt, are.total)) is)

module _ (ts : List (Tree Span)) (most i j : ℕ) (one other : CompiledPattern)
    (first : IsCompiledPattern (MeansAt (set_tree ts) i) one)
    (second : IsCompiledPattern (MeansAt (set_tree ts) j) other) where
  pub excluded : ((text : List ℕ) → HasEdges one.edges text → HasEdges other.edges text → ⊥)
      → IsPairDecided (set_tree ts) most (i, j) None
  excluded none s shared =
      none s (first.edges s shared.decided.0) (second.edges s shared.decided.1)

  -- what is found of the programs is found of the patterns
  pub shared_answer : (found : Comparison)
      → IsAnswer (IsWanted Both Paths (Accepts one.program.0 0) (Accepts other.program.0 0)) found
      → IsAnswer (IsSharedPath (set_tree ts) (i, j)) found
  shared_answer found = answer_as Paths (Accepts one.program.0 0) (Accepts other.program.0 0)
      (MeansAt (set_tree ts) i) (MeansAt (set_tree ts) j) first.accepts second.accepts Both found

  module _ (ordered : i < j) (within : j < length ts) where
    pub decided_by_text : (path : String Global)
        → IsShortest (IsSharedPath (set_tree ts) (i, j)) (chars (string_bytes path))
        → IsPairDecided (set_tree ts) most (i, j) (Some (record { first = i; second = j; path = Some path }))
    decided_by_text path is = (
      record { ordered = ordered; within = is_within ts j within; path = is },
      refl,
    )

    pub decided_by_limit : KeepsLimit one.program.0 other.program.0 Both Paths most Unknown
        → IsPairDecided (set_tree ts) most (i, j) (Some (record { first = i; second = j; path = None }))
    decided_by_limit kept = (
      record {
        ordered = ordered;
        within = is_within ts j within;
        path = (
          one.program.0,
          other.program.0,
          record { criterion = Accepted; can_select = tt; selects = first.accepts },
          record { criterion = Accepted; can_select = tt; selects = second.accepts },
          kept,
        );
      },
      refl,
    )

-- ---- the pairs that were compared
module _ (ts : List (Tree Span)) (most : ℕ) where
  abbrev pub FoundBefore : PatternPair → List Conflict → Type 0
  FoundBefore = AreConflictsBefore (set_tree ts) most

  -- if all pairs before another one are done, or can't share a path, it may come next
  pub found_on : (p q : PatternPair) (conflicts : List Conflict)
      → ((r : PatternPair) → IsEarlierPair r p → IsEarlierPair r q)
      → ((r : PatternPair) (s : List ℕ) → r.0 < r.1 → IsEarlierPair r q → IsSharedPath (set_tree ts) r s
      → IsEarlierPair r p) → FoundBefore p conflicts → FoundBefore q conflicts
  found_on p q conflicts on done found = record {
    each = found.each;
    before = λ k c is. on (pair_of c) (found.before k c is);
    ascending = found.ascending;
    all = λ r s lt earlier shared. found.all r s lt (done r s lt earlier shared) shared;
  }

  -- the next pair of a row
  earlier_next : (i j : ℕ) (r : PatternPair) → IsEarlierPair r (i, j) → IsEarlierPair r (i, j + 1)
  earlier_next i j r earlier = elim earlier [
    | inl low ↦ inl low
    | inr (same, low) ↦ inr (same, omega (arith, low))
  ]

  -- a pair before the next one is the pair itself or before it
  earlier_or_same : (i j : ℕ) (r : PatternPair) → IsEarlierPair r (i, j + 1)
      → IsEarlierPair r (i, j) ⊎ (r ≡ (i, j))
  earlier_or_same i j r earlier = elim earlier [
    | inl low ↦ inl (inl low)
    | inr (same, low) ↦ elim (cases_lt r.1 j) [
      | inl less ↦ inl (inr (same, less))
      | inr past ↦ (let at : r.1 ≡ j = omega (arith, low, past) in inr (λ n. (same n, at n)))
    ]
  ]

  -- a row ends with its last pattern
  pub row_ends : (i j : ℕ) (conflicts : List Conflict) → length ts ≤ j → FoundBefore (i, j) conflicts
      → FoundBefore (i + 1, 0) conflicts
  row_ends i j conflicts past = found_on (i, j) (i + 1, 0) conflicts
      (λ r earlier. elim earlier [
        | inl low ↦ inl (omega (arith, low))
        | inr (same, low) ↦ inl (omega (arith, same))
      ])
      (λ r s lt earlier shared. elim earlier [
        | inl low ↦ elim (cases_lt r.0 i) [
          | inl less ↦ inl less
          | inr more ↦ (let there : r.1 < length ts = branch_within ts r.1 s shared.decided.1 in
              inr (omega (arith, low, more), omega (arith, past, there)))
        ]
        | inr (same, low) ↦ absurd (omega (arith, low))
      ])

  -- two patterns that share no path
  pub none_shared : (i j : ℕ) (conflicts : List Conflict)
      → ((s : List ℕ) → IsSharedPath (set_tree ts) (i, j) s → ⊥) → FoundBefore (i, j) conflicts
      → FoundBefore (i, j + 1) conflicts
  none_shared i j conflicts none = found_on (i, j) (i, j + 1) conflicts (earlier_next i j)
      (λ r s lt earlier shared. elim (earlier_or_same i j r earlier) [
        | inl before ↦ before
        | inr same ↦ absurd (none s (subst (λ p. IsSharedPath (set_tree ts) p s) same shared))
      ])

  -- two patterns with a conflict
  pub one_found : (i j : ℕ) (old new : List Conflict) (c : Conflict) → new ≡ old ++ c ∷ []
      → IsConflict (set_tree ts) most c → pair_of c ≡ (i, j) → FoundBefore (i, j) old
      → FoundBefore (i, j + 1) new
  one_found i j old new c grown is pair found = record {
    each = λ k d at. elim (was_or_added k d at) [
      | inl was ↦ found.each k d was
      | inr (_, same) ↦ subst (IsConflict (set_tree ts) most) same is
    ];
    before = λ k d at. elim (was_or_added k d at) [
      | inl was ↦ earlier_next i j (pair_of d) (found.before k d was)
      | inr (_, same) ↦ subst (λ e. IsEarlierPair (pair_of e) (i, j + 1)) same
          (subst (λ p. IsEarlierPair p (i, j + 1)) (sym pair) (inr (refl, omega arith)))
    ];
    ascending = λ k l d e lt here there. elim (was_or_added l e there) [
      | inl was ↦ elim (was_or_added k d here) [
        | inl earlier ↦ found.ascending k l d e lt earlier was
        | inr (at, _) ↦ absurd (omega (arith, lt, at, slice_get_within old l e was))
      ]
      | inr (last, same) ↦ elim (was_or_added k d here) [
        | inl earlier ↦ subst (λ x. IsEarlierPair (pair_of d) (pair_of x)) same
            (subst (IsEarlierPair (pair_of d)) (sym pair) (found.before k d earlier))
        | inr (at, _) ↦ absurd (omega (arith, lt, at, last))
      ]
    ];
    all = λ r s lt earlier shared. elim (earlier_or_same i j r earlier) [
      | inl before ↦ (let (k, d, at, equal) = found.all r s lt before shared in
          (k, d, ap (λ cs. slice_get cs k) grown ∙ kept_item old c k d at, equal))
      | inr same ↦
          (length old, c, ap (λ cs. slice_get cs (length old)) grown ∙ last_item old c, pair ∙ sym same)
    ];
  } where
    was_or_added : (k : ℕ) (d : Conflict) → slice_get new k ≡ Some d
        → (slice_get old k ≡ Some d) ⊎ ((k ≡ length old) × (c ≡ d))
    was_or_added k d at = added_item old c k d (sym (ap (λ cs. slice_get cs k) grown) ∙ at)

  -- after all rows these are the conflicts
  pub all_found : (i : ℕ) (conflicts : List Conflict) → length ts ≤ i → FoundBefore (i, 0) conflicts
      → AreConflicts (set_tree ts) most conflicts
  all_found i conflicts past found = record {
    each = found.each;
    ascending = found.ascending;
    all = λ r s lt shared. found.all r s lt
        (inl (omega (arith, past, branch_within ts r.0 s shared.decided.0))) shared;
  }
