-- The wanted entries are those that the glob matches and no filter excludes.
use Rattle.std.proofs.Common.{◌≡◌, ◌∙◌, ◌≤◌, ◌&&◌, ◌↔◌, ℕ, Bool, true, false, not, List, [], ◌∷◌, inl, inr}
use Rattle.std.proofs.{Common.{refl, sym}, lemmas.Bool.{and_parts, false≢true, le-ltb, ltb-false, not-true}}
use Rattle.std.proofs.lemmas.List.Elements.{All-cons, All-head, All-nil, All-tail}
use Rattle.std.specs.Prelude.{All, chars, cond, filter, nat_lt}
use Rattle.wax_token.specs.{Decided.{means_test, means_tested}, Reads.Span}
use Rattle.wax_tree.specs.{declared.steps.DepthRange.DepthRange, Whole.is_in}
use Rattle.wax_walk.specs.Given.{Facts, Given, alone, entry, fault, kept, no_memory, with_tree}
use Rattle.wax_exclude.specs.Wanted.{Filter, Wanted, excludes, is_wanted, none_excludes, not_ignored}
use Rattle.wax_exclude.specs.{Wanted.not_meant, WantedEntries.{IsExcludedBy, IsWantedEntry, Selects}}
use Rattle.wax_exclude.proofs.LastMatch.{last_match_decides}

-- ---- tests

both_true : (a b : Bool) → a ≡ true → b ≡ true → (a && b) ≡ true
both_true a b e f = rw (e, f)

not_true : (b : Bool) → not b ≡ true → b ≡ true → ⊥
not_true true e f = false≢true e
not_true false e f = false≢true f

not_so : (b : Bool) → (b ≡ true → ⊥) → not b ≡ true
not_so true h = absurd (h refl)
not_so false h = refl

-- ---- filters

excluded : (x : Filter Span) (s : List ℕ) → (excludes x s ≡ true) ↔ IsExcludedBy x s
excluded (not_meant t) s = means_tested t false false s
excluded (not_ignored lines) s = last_match_decides s lines

abbrev IsNotExcluded : List ℕ → Filter Span → Type 0
IsNotExcluded s x = ¬ (IsExcludedBy x s)

none_so : (filters : List (Filter Span)) (s : List ℕ) → none_excludes filters s ≡ true
    → All (IsNotExcluded s) filters
none_so [] s e = All-nil (IsNotExcluded s)
none_so (x ∷ filters) s e =
    let p = and_parts (not (excludes x s)) (none_excludes filters s) e in
    All-cons (IsNotExcluded s) x filters (λ h. not_true (excludes x s) p.0 ((excluded x s).1 h))
    (none_so filters s p.1)

none_if : (filters : List (Filter Span)) (s : List ℕ) → All (IsNotExcluded s) filters
    → none_excludes filters s ≡ true
none_if [] s h = refl
none_if (x ∷ filters) s h =
    both_true (not (excludes x s)) (none_excludes filters s)
    (not_so (excludes x s) (λ e. All-head (IsNotExcluded s) x filters h ((excluded x s).0 e)))
    (none_if filters s (All-tail (IsNotExcluded s) x filters h))

-- ---- entries

not_below : (a b : ℕ) → not (nat_lt a b) ≡ true → b ≤ a
not_below a b e = ltb-false a b (not-true (nat_lt a b) e)

not_less : (a b : ℕ) → b ≤ a → not (nat_lt a b) ≡ true
not_less a b h = rw (le-ltb a b h)

module _ (w : Wanted Span) (range : DepthRange) where
  abbrev test : Given → Bool
  test x = is_in range x && is_wanted w x

  entry_so : (f : Facts) → test (entry kept f) ≡ true → IsWantedEntry w range (entry kept f)
  entry_so f e =
      let s = chars f.candidate in
      let p = and_parts (is_in range (entry kept f)) (is_wanted w (entry kept f)) e in
      let q = and_parts (not (nat_lt f.depth range.min)) (not (nat_lt range.max f.depth)) p.0 in
      let r = and_parts (means_test w.glob false false s) (none_excludes w.filters s) p.1 in (
        not_below f.depth range.min q.0,
        not_below range.max f.depth q.1,
        (means_tested w.glob false false s).0 r.0,
        none_so w.filters s r.1,
      )

  entry_if : (f : Facts) → IsWantedEntry w range (entry kept f) → test (entry kept f) ≡ true
  entry_if f h =
      let s = chars f.candidate in
      both_true (is_in range (entry kept f)) (is_wanted w (entry kept f))
      (both_true (not (nat_lt f.depth range.min)) (not (nat_lt range.max f.depth))
      (not_less f.depth range.min h.0) (not_less range.max f.depth h.1))
      (both_true (means_test w.glob false false s) (none_excludes w.filters s)
      ((means_tested w.glob false false s).1 h.2) (none_if w.filters s h.3))

  tested : (x : Given) → (test x ≡ true) ↔ IsWantedEntry w range x
  tested (entry kept f) = (entry_so f, entry_if f)
  tested (entry alone f) =
      ((λ e. false≢true (and_parts (is_in range (entry alone f)) false e).1), (λ h. absurd h))
  tested (entry with_tree f) =
      ((λ e. false≢true (and_parts (is_in range (entry with_tree f)) false e).1), (λ h. absurd h))
  tested (fault kind path depth) = ((λ e. false≢true e), (λ h. absurd h))
  tested no_memory = ((λ e. false≢true e), (λ h. absurd h))

  selected : (x : Given) (xs : List Given) (b : Bool) → test x ≡ b
      → Selects (IsWantedEntry w range) xs (filter test xs)
      → Selects (IsWantedEntry w range) (x ∷ xs) (cond b (x ∷ filter test xs) (filter test xs))
  selected x xs true e h = inl ((tested x).0 e, (filter test xs, refl, h))
  selected x xs false e h = inr ((λ k. false≢true (sym e ∙ (tested x).1 k)), h)

  pub selects : (xs : List Given) → Selects (IsWantedEntry w range) xs (filter test xs)
  selects [] = refl
  selects (x ∷ xs) = selected x xs (test x) refl (selects xs)
