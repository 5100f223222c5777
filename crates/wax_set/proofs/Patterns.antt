-- What the alternation of the patterns' trees means, and why there is none.
use Rattle.std.proofs.Common.{◌≡◌, ◌↔◌, ◌<◌, ◌≤◌, ◌++◌, ◌∷◌, ℕ, zero, suc, false, List, [], inl, inr, sym, ap}
use Rattle.std.proofs.{Common.{◌∙◌, subst}, lemmas.List.append_assoc}
use Rattle.wax_token.specs.{Cost.program_length, Meaning.{Means, MeansSome}, Reads.Span}
use Rattle.wax_token.specs.{Syntax.{Tree, alternation}, Words.trees}
use Rattle.wax_set.specs.Sets.{BranchMeans, MeansAt, MeansText}
use Rattle.wax_set.specs.Patterns.{AreOversized, IsAnyOf, IsFirstRefused, IsOnly, NoSet, NumberMeans}
use Rattle.wax_set.specs.Patterns.{OneMeans, SpellEach}
use Rattle.wax_rule.specs.declared.error.build_error.BuildError.{BuildError}
use Rattle.wax_rule.specs.declared.error.build_error.BuildError.TheVariants.{Parse, Rule, Compile, Memory}

module _ {P : Type 0} (S : P → Tree Span → Type 0) where
  -- one branch means what the tree of its pattern does
  to_one : (ps : List P) (ts : List (Tree Span)) → SpellEach S ps ts → (s : List ℕ) →
      MeansSome (trees ts) false false s → OneMeans S ps s
  to_one [] [] h s m = m
  to_one [] (t ∷ ts) h s m = absurd h
  to_one (p ∷ ps) [] h s m = absurd h
  to_one (p ∷ ps) (t ∷ ts) h s m = elim m [ inl k ↦ inl (t, h.0.0, k) | inr k ↦ inr (to_one ps ts h.1 s k) ]

  from_one : (ps : List P) (ts : List (Tree Span)) → SpellEach S ps ts → (s : List ℕ) →
      OneMeans S ps s → MeansSome (trees ts) false false s
  from_one [] [] h s m = m
  from_one [] (t ∷ ts) h s m = absurd h
  from_one (p ∷ ps) [] h s m = absurd h
  from_one (p ∷ ps) (t ∷ ts) h s m = elim m [
    | inl k ↦ inl (subst (λ u. Means u false false s) (h.0.1 k.0 k.1) k.2)
    | inr k ↦ inr (from_one ps ts h.1 s k)
  ]

  -- so does the branch with an index
  to_number : (ps : List P) (ts : List (Tree Span)) → SpellEach S ps ts → (k : ℕ) (s : List ℕ) →
      BranchMeans (trees ts) k s → NumberMeans S ps k s
  to_number [] [] h k s m = m
  to_number [] (t ∷ ts) h k s m = absurd h
  to_number (p ∷ ps) [] h k s m = absurd h
  to_number (p ∷ ps) (t ∷ ts) h zero s m = (t, h.0.0, m)
  to_number (p ∷ ps) (t ∷ ts) h (suc k) s m = to_number ps ts h.1 k s m

  from_number : (ps : List P) (ts : List (Tree Span)) → SpellEach S ps ts → (k : ℕ) (s : List ℕ) →
      NumberMeans S ps k s → BranchMeans (trees ts) k s
  from_number [] [] h k s m = m
  from_number [] (t ∷ ts) h k s m = absurd h
  from_number (p ∷ ps) [] h k s m = absurd h
  from_number (p ∷ ps) (t ∷ ts) h zero s (u, spells, m) =
      subst (λ u. Means u false false s) (h.0.1 u spells) m
  from_number (p ∷ ps) (t ∷ ts) h (suc k) s m = from_number ps ts h.1 k s m

  pub is_any_of : (ps : List P) (ts : List (Tree Span)) (t : Tree Span) → SpellEach S ps ts →
      t ≡ alternation (0, 0) (trees ts) → program_length t ≤ 1048576 → IsAnyOf S ps t
  is_any_of ps ts t h e fits = record {
    branches = ts;
    each = h;
    tree = e;
    fits = fits;
    means = λ s. subst (λ u. MeansText u s ↔ OneMeans S ps s) (sym e) (to_one ps ts h s, from_one ps ts h s);
    numbers = λ k s. subst (λ u. MeansAt u k s ↔ NumberMeans S ps k s) (sym e)
        (to_number ps ts h k s, from_number ps ts h k s);
  }

  pub are_oversized : (ps : List P) (ts : List (Tree Span)) (t : Tree Span) → SpellEach S ps ts →
      t ≡ alternation (0, 0) (trees ts) → 1048576 < program_length t → AreOversized S ps
  are_oversized ps ts t h e large = record {
    branches = ts;
    each = h;
    oversized = subst (λ u. 1048576 < program_length u) e large;
  }

  -- one more pattern with its tree
  pub one_more : (ps : List P) (ts : List (Tree Span)) (p : P) (t : Tree Span) →
      SpellEach S ps ts → IsOnly (S p) t → SpellEach S (ps ++ p ∷ []) (ts ++ t ∷ [])
  one_more [] [] p t h k = (k, tt)
  one_more [] (u ∷ ts) p t h k = absurd h
  one_more (q ∷ ps) [] p t h k = absurd h
  one_more (q ∷ ps) (u ∷ ts) p t h k = (h.0, one_more ps ts p t h.1 k)

-- the first of those that are left is taken
pub one_taken : {P : Type 0} (before : List P) (p : P) (rest left all : List P) → left ≡ p ∷ rest →
    before ++ left ≡ all → (before ++ p ∷ []) ++ rest ≡ all
one_taken before p rest left all taken joined =
    append_assoc before (p ∷ []) rest ∙ ap (λ z. before ++ z) (sym taken) ∙ joined

module _ {P : Type 0} (S : P → Tree Span → Type 0) (R : P → BuildError → Type 0) where
  pub refused_first : (all before : List P) (ts : List (Tree Span)) (p : P) (after : List P) (e : BuildError)
      →
      SpellEach S before ts → all ≡ before ++ p ∷ after → R p e → IsFirstRefused S R all e
  refused_first all before ts p after e h same r = record {
    before = before;
    branches = ts;
    each = h;
    pattern = p;
    refused = r;
    after = after;
    all = same;
  }

  pub no_set : (all : List P) (e : BuildError) → IsFirstRefused S R all e → NoSet S R all e
  no_set all (Parse place) h = h
  no_set all (Rule error) h = h
  no_set all (Compile error) h = inl h
  no_set all Memory h = tt

  -- the pattern after those that spell a tree is refused
  pub refused_next : (all before : List P) (ts : List (Tree Span)) (p : P)
      (rest after : List P) (e : BuildError) →
      SpellEach S before ts → before ++ rest ≡ all → rest ≡ p ∷ after → R p e → NoSet S R all e
  refused_next all before ts p rest after e h joined here r =
      no_set all e (refused_first all before ts p after e h (sym joined ∙ ap (λ z. before ++ z) here) r)
