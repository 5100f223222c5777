-- The greatest number that matches a text decides what a list of lines does.
use Rattle.std.proofs.Common.{◌==◌, ◌≡◌, ◌↔◌, ℕ, suc, ◌≤◌, ◌<◌, ◌+◌, ◌%◌, Bool, true, false, not, ◌&&◌, ◌||◌}
use Rattle.std.proofs.Common.{cond, ◌⊎◌, List, [], ◌∷◌, ◌++◌, Option, Some, None, length, refl, sym, ◌∙◌, ap}
use Rattle.std.proofs.Common.{subst, inl, inr, arith, eq-eqb, ne_eqb}
use Rattle.std.proofs.lemmas.Bool.{and_from, cases_lt, false≢true}
use Rattle.std.specs.Prelude.{IsTrue, nat_lt}
use Rattle.wax_compare.specs.Selected.{HasOddLast}
use Rattle.wax_lazy.specs.Numbers.{IsLastNumber}
use Rattle.wax_program.specs.Machine.{Accepts, mark}
use Rattle.wax_token.specs.{Decided.{holds_truly, some_decided}, Meaning.{Means, MeansSome}, Reads.Span}
use Rattle.wax_token.specs.{Syntax.Tree, Words.{members, trees}}
use Rattle.wax_walk.specs.{Candidates.Candidate, Given.{kept, alone, with_tree}}
use Rattle.wax_exclude.proofs.Tests.{and_true, or_true, or_left, or_right, wild_tested}
use Rattle.wax_exclude.specs.{Covers.{WildMeans, ends_wild, some_everything, wild_test}, Excluded.some_test}
use Rattle.wax_exclude.specs.{Marks.covered_mark, declared.numbers.NumberedLines.NumberedLines}
use Rattle.wax_exclude.specs.declared.split.SplitLine.{SplitLine}
use Rattle.wax_exclude.specs.inner.Listed.{below_by, ignored_by, listed_mark, none_reincludes}
use Rattle.wax_exclude.specs.inner.Numbers.{HasMatch, KnowsLines, MatchesBy, covering_number}
use Rattle.wax_exclude.specs.inner.Numbers.{covers_everything, is_odd, number_after, numbered_mark}

-- ---- numbers of lines

odd_suc : (n : ℕ) → is_odd (suc n) ≡ not (is_odd n)
odd_suc n = elim (cases_lt (n % 2) 1) [
  | inl low ↦ eq-eqb (suc n % 2) 1 (omega (arith, low))
      ∙ ap not (sym (ne_eqb (n % 2) 1 (λ e. omega (arith, e, low))))
  | inr high ↦ ne_eqb (suc n % 2) 1 (λ e. omega (arith, e, high))
      ∙ ap not (sym (eq-eqb (n % 2) 1 (omega (arith, high))))
]

same_or_next : (n : ℕ) (b : Bool) → is_odd n ≡ b → is_odd (cond b n (suc n)) ≡ true
same_or_next n true e = e
same_or_next n false e = odd_suc n ∙ ap not e

next_or_same : (n : ℕ) (b : Bool) → is_odd n ≡ b → is_odd (cond b (suc n) n) ≡ false
next_or_same n true e = odd_suc n ∙ ap not e
next_or_same n false e = e

-- the numbers of lines that ignore are odd
pub odd_next : (n : ℕ) (ignores : Bool) → is_odd (number_after n ignores) ≡ ignores
odd_next n true = same_or_next n (is_odd n) refl
odd_next n false = next_or_same n (is_odd n) refl

module _ (n : ℕ) where
  at_least : (b : Bool) → (n ≤ cond b n (suc n)) × (n ≤ cond b (suc n) n)
  at_least true = (omega arith, omega arith)
  at_least false = (omega arith, omega arith)

  at_most : (b : Bool) → (cond b n (suc n) ≤ suc n) × (cond b (suc n) n ≤ suc n)
  at_most true = (omega arith, omega arith)
  at_most false = (omega arith, omega arith)

  pub next_more : (ignores : Bool) → n ≤ number_after n ignores
  next_more true = (at_least (is_odd n)).0
  next_more false = (at_least (is_odd n)).1

  pub next_most : (ignores : Bool) → number_after n ignores ≤ suc n
  next_most true = (at_most (is_odd n)).0
  next_most false = (at_most (is_odd n)).1

module _ (s : List ℕ) where
  -- whether an alternative that ends with `**` matches, in a line that ignores and
  -- after which none re-includes
  abbrev top_test : List SplitLine → Bool
  top_test [] = false
  top_test (line ∷ lines) =
      (none_reincludes (line ∷ lines) && wild_test line.alternatives s) || top_test lines

  -- a line with the number k matches, if the line before these has the number n
  abbrev LineMatches : ℕ → List SplitLine → ℕ → Type 0
  LineMatches n [] k = ⊥
  LineMatches n (line ∷ lines) k =
      ((k ≡ number_after n line.ignores) × (some_test line.alternatives s ≡ true))
      ⊎ LineMatches (number_after n line.ignores) lines k

  matched_most : (n : ℕ) (lines : List SplitLine) (k : ℕ) → LineMatches n lines k → k ≤ n + length lines
  matched_most n [] k h = absurd h
  matched_most n (line ∷ lines) k (inl h) = omega (arith, h.0, next_most n line.ignores)
  matched_most n (line ∷ lines) k (inr h) =
      omega (arith, next_most n line.ignores, matched_most (number_after n line.ignores) lines k h)

  -- ---- the number of the last line that matches
  abbrev best : ℕ → ℕ → List SplitLine → ℕ
  best n found [] = found
  best n found (line ∷ lines) =
      best (number_after n line.ignores)
      (cond (some_test line.alternatives s) (number_after n line.ignores) found) lines

  odd_cond : (b : Bool) (m found : ℕ) (g was : Bool) → is_odd m ≡ g → is_odd found ≡ was
      → is_odd (cond b m found) ≡ cond b g was
  odd_cond true m found g was e f = e
  odd_cond false m found g was e f = f

  best_decides : (n found : ℕ) (was : Bool) (lines : List SplitLine) → is_odd found ≡ was
      → is_odd (best n found lines) ≡ ignored_by was lines s
  best_decides n found was [] e = e
  best_decides n found was (line ∷ lines) e =
      let m = number_after n line.ignores in
      let d = some_test line.alternatives s in
      best_decides m (cond d m found) (cond d line.ignores was) lines
      (odd_cond d m found line.ignores was (odd_next n line.ignores) e)

  module _ (m found : ℕ) (lines : List SplitLine) where
    keeps_both : (b : Bool) → found ≤ m → m ≤ best m m lines → found ≤ best m found lines
        → found ≤ best m (cond b m found) lines
    keeps_both true le p q = omega (arith, le, p)
    keeps_both false le p q = q

    found_both : (b : Bool) → (best m m lines ≡ m) ⊎ LineMatches m lines (best m m lines)
        → (best m found lines ≡ found) ⊎ LineMatches m lines (best m found lines)
        → (best m (cond b m found) lines ≡ found)
        ⊎ (((best m (cond b m found) lines ≡ m) × (b ≡ true))
        ⊎ LineMatches m lines (best m (cond b m found) lines))
    found_both true (inl e) q = inr (inl (e, refl))
    found_both true (inr h) q = inr (inr h)
    found_both false p (inl e) = inl e
    found_both false p (inr h) = inr (inr h)

    greatest_both : (b : Bool) → b ≡ true → m ≤ best m m lines → m ≤ best m (cond b m found) lines
    greatest_both true e p = p
    greatest_both false e p = cc

    rest_both : (b : Bool) (k : ℕ) → k ≤ best m m lines → k ≤ best m found lines
        → k ≤ best m (cond b m found) lines
    rest_both true k p q = p
    rest_both false k p q = q

  best_keeps : (n found : ℕ) (lines : List SplitLine) → found ≤ n → found ≤ best n found lines
  best_keeps n found [] le = omega arith
  best_keeps n found (line ∷ lines) le =
      let m = number_after n line.ignores in
      let lm : found ≤ m = omega (arith, le, next_more n line.ignores) in
      keeps_both m found lines (some_test line.alternatives s) lm (best_keeps m m lines (omega arith))
      (best_keeps m found lines lm)

  best_greatest : (n found : ℕ) (lines : List SplitLine) (k : ℕ) → found ≤ n → LineMatches n lines k
      → k ≤ best n found lines
  best_greatest n found [] k le h = absurd h
  best_greatest n found (line ∷ lines) k le (inl h) =
      let m = number_after n line.ignores in
      let g = greatest_both m found lines (some_test line.alternatives s) h.1
      (best_keeps m m lines (omega arith)) in
      omega (arith, h.0, g)
  best_greatest n found (line ∷ lines) k le (inr h) =
      let m = number_after n line.ignores in
      rest_both m found lines (some_test line.alternatives s) k (best_greatest m m lines k (omega arith) h)
      (best_greatest m found lines k (omega (arith, le, next_more n line.ignores)) h)

  best_found : (n found : ℕ) (lines : List SplitLine) → (best n found lines ≡ found)
      ⊎ LineMatches n lines (best n found lines)
  best_found n found [] = inl refl
  best_found n found (line ∷ lines) =
      let m = number_after n line.ignores in
      elim (found_both m found lines (some_test line.alternatives s) (best_found m m lines)
      (best_found m found lines)) [
        | inl e ↦ inl e
        | inr (inl h) ↦ inr (inl h)
        | inr (inr h) ↦ inr (inr h)
      ]

  -- ---- alternatives that match
  wild_some : (ts : List (Tree Span)) → WildMeans ts s → MeansSome (trees ts) false false s
  wild_some [] h = h
  wild_some (t ∷ ts) (inl h) = inl h.1
  wild_some (t ∷ ts) (inr h) = inr (wild_some ts h)

  some_matches : (ts : List (Tree Span)) → MeansSome (trees ts) false false s → some_test ts s ≡ true
  some_matches ts h = (holds_truly (some_decided (trees ts) false false s)).1 h

  wild_matches : (ts : List (Tree Span)) → wild_test ts s ≡ true → some_test ts s ≡ true
  wild_matches ts h = some_matches ts (wild_some ts ((wild_tested ts s).0 h))

  -- ---- what covers
  chosen_true : (b g was : Bool) → g ≡ true → was ≡ true → cond b g was ≡ true
  chosen_true true g was e f = e
  chosen_true false g was e f = f

  stays_true : (was : Bool) (lines : List SplitLine) → was ≡ true → none_reincludes lines ≡ true
      → ignored_by was lines s ≡ true
  stays_true was [] w h = w
  stays_true was (line ∷ lines) w h =
      let k = and_true line.ignores (none_reincludes lines) h in
      stays_true (cond (some_test line.alternatives s) line.ignores was) lines
      (chosen_true (some_test line.alternatives s) line.ignores was k.0 w) k.1

  top_ignored : (was : Bool) (lines : List SplitLine) → top_test lines ≡ true → ignored_by was lines s ≡ true
  top_ignored was [] h = cc
  top_ignored was (line ∷ lines) h =
      let next = cond (some_test line.alternatives s) line.ignores was in
      elim (or_true (none_reincludes (line ∷ lines) && wild_test line.alternatives s) (top_test lines) h) [
        | inl p ↦ (let q = and_true (none_reincludes (line ∷ lines)) (wild_test line.alternatives s) p in
            let k = and_true line.ignores (none_reincludes lines) q.0 in
            stays_true next lines
            (ap (λ v. cond v line.ignores was) (wild_matches line.alternatives q.1) ∙ k.0) k.1)
        | inr p ↦ top_ignored next lines p
      ]

  -- ---- numbers of alternatives
  module _ (own above : ℕ) where
    by_head : (t : Tree Span) (ts : List (Tree Span)) (k : ℕ) (b : Bool) → ends_wild (members t) ≡ b
        → k ≡ cond b above own → Means t false false s
        → ((k ≡ above) × WildMeans (t ∷ ts) s) ⊎ ((k ≡ own) × MeansSome (trees (t ∷ ts)) false false s)
    by_head t ts k true wild e m = inl (e, inl (wild, m))
    by_head t ts k false wild e m = inr (e, inl m)

    by_parts : (ts : List (Tree Span)) (k : ℕ) → MatchesBy own above ts k s
        → ((k ≡ above) × WildMeans ts s) ⊎ ((k ≡ own) × MeansSome (trees ts) false false s)
    by_parts [] k h = absurd h
    by_parts (t ∷ ts) k (inl h) = by_head t ts k (ends_wild (members t)) refl h.0 h.1
    by_parts (t ∷ ts) k (inr h) =
        elim (by_parts ts k h) [ inl p ↦ inl (p.0, inr p.1) | inr p ↦ inr (p.0, inr p.1) ]

    by_line : (ts : List (Tree Span)) (k : ℕ) → MatchesBy own above ts k s
        → ((k ≡ above) × (wild_test ts s ≡ true)) ⊎ ((k ≡ own) × (some_test ts s ≡ true))
    by_line ts k h = elim (by_parts ts k h) [
      | inl p ↦ inl (p.0, (wild_tested ts s).1 p.1)
      | inr p ↦ inr (p.0, some_matches ts p.1)
    ]

    by_covering : (ts : List (Tree Span)) → WildMeans ts s → MatchesBy own above ts above s
    by_covering [] h = h
    by_covering (t ∷ ts) (inl h) = inl (sym (ap (λ b. cond b above own) h.0), h.1)
    by_covering (t ∷ ts) (inr h) = inr (by_covering ts h)

    by_any : (ts : List (Tree Span)) → own ≤ above → MeansSome (trees ts) false false s
        → (k : ℕ) × (own ≤ k) × MatchesBy own above ts k s
    by_any [] le h = absurd h
    by_any (t ∷ ts) le (inl m) =
        (cond (ends_wild (members t)) above own, either (ends_wild (members t)), inl (refl, m))
      where
        either : (b : Bool) → own ≤ cond b above own
        either true = le
        either false = omega arith
    by_any (t ∷ ts) le (inr h) = (let r = by_any ts le h in (r.0, r.1, inr r.2))

  module _ (top : ℕ) where
    found_line : (n : ℕ) (lines : List SplitLine) (k : ℕ) → HasMatch top n lines k s
        → ((k ≡ top) × (top_test lines ≡ true)) ⊎ LineMatches n lines k
    found_line n [] k h = absurd h
    found_line n (line ∷ lines) k (inl h) =
        let own = number_after n line.ignores in
        by_cover (none_reincludes (line ∷ lines)) refl
        (by_line own (covering_number top own (line ∷ lines)) line.alternatives k h)
      where
        by_cover : (b : Bool) → none_reincludes (line ∷ lines) ≡ b
            → ((k ≡ cond b top (number_after n line.ignores)) × (wild_test line.alternatives s ≡ true))
            ⊎ ((k ≡ number_after n line.ignores) × (some_test line.alternatives s ≡ true))
            → ((k ≡ top) × (top_test (line ∷ lines) ≡ true)) ⊎ LineMatches n (line ∷ lines) k
        by_cover b e (inr m) = inr (inl m)
        by_cover true e (inl m) = inl (
          m.0,
          or_left (none_reincludes (line ∷ lines) && wild_test line.alternatives s) (top_test lines)
              (and_from (none_reincludes (line ∷ lines)) (wild_test line.alternatives s) e m.1),
        )
        by_cover false e (inl m) = inr (inl (m.0, wild_matches line.alternatives m.1))
    found_line n (line ∷ lines) k (inr h) = elim (found_line (number_after n line.ignores) lines k h) [
      | inl m ↦ inl (
        m.0,
        or_right (none_reincludes (line ∷ lines) && wild_test line.alternatives s) (top_test lines) m.1,
      )
      | inr m ↦ inr (inr m)
    ]

    covered_found : (n : ℕ) (lines : List SplitLine) → top_test lines ≡ true → HasMatch top n lines top s
    covered_found n [] h = cc
    covered_found n (line ∷ lines) h =
        let own = number_after n line.ignores in
        elim (or_true (none_reincludes (line ∷ lines) && wild_test line.alternatives s) (top_test lines) h) [
          | inl p ↦ (let q = and_true (none_reincludes (line ∷ lines)) (wild_test line.alternatives s) p in
              inl (subst (λ above. MatchesBy own above line.alternatives top s)
              (sym (ap (λ b. cond b top own) q.0))
              (by_covering own top line.alternatives ((wild_tested line.alternatives s).0 q.1))))
          | inr p ↦ inr (covered_found own lines p)
        ]

    line_found : (n : ℕ) (lines : List SplitLine) (k : ℕ) → n + length lines < top → LineMatches n lines k
        → (j : ℕ) × (k ≤ j) × HasMatch top n lines j s
    line_found n [] k lt h = absurd h
    line_found n (line ∷ lines) k lt (inl h) =
        let own = number_after n line.ignores in
        let le : own < top = omega (arith, lt, next_most n line.ignores) in
        let r = by_any own (covering_number top own (line ∷ lines)) line.alternatives
        (either own (none_reincludes (line ∷ lines)) (omega (arith, le)))
        ((holds_truly (some_decided (trees line.alternatives) false false s)).0 h.1) in
        (r.0, omega (arith, h.0, r.1), inl r.2)
      where
        either : (own : ℕ) (b : Bool) → own ≤ top → own ≤ cond b top own
        either own true le = le
        either own false le = omega arith
    line_found n (line ∷ lines) k lt (inr h) =
        let r = line_found (number_after n line.ignores) lines k
        (omega (arith, lt, next_most n line.ignores)) h in
        (r.0, r.1, inr r.2)

or_swap : (w e t : Bool) → (w || (e || t)) ≡ (e || (w || t))
or_swap true true t = refl
or_swap true false t = refl
or_swap false e t = refl

below_step : (g a e d w f t : Bool) → ((g && (a && (e || (d && w)))) || (f || (d && t)))
    ≡ ((((g && a) && e) || f) || (d && (((g && a) && w) || t)))
below_step false a e d w f t = refl
below_step true false e d w f t = refl
below_step true true true d w f t = refl
below_step true true false true w f t = or_swap w f t
below_step true true false false w f t = refl

below_parts : (lines : List SplitLine) (c : Candidate)
    → below_by lines c ≡ (covers_everything lines || (nat_lt 0 c.depth && top_test c.text lines))
below_parts [] c = none_below (nat_lt 0 c.depth)
  where
    none_below : (d : Bool) → false ≡ (d && false)
    none_below true = refl
    none_below false = refl
below_parts (line ∷ lines) c =
    let g = line.ignores in
    let a = none_reincludes lines in
    let e = some_everything line.alternatives in
    let d = nat_lt 0 c.depth in
    let w = wild_test line.alternatives c.text in
    ap (λ v. (g && (a && (e || (d && w)))) || v) (below_parts lines c)
    ∙ below_step g a e d w (covers_everything lines) (top_test c.text lines)

-- ---- the greatest number decides
module _ (lines : List SplitLine) (c : Candidate) (top : ℕ) (above : length lines < top) where
  abbrev s : List ℕ
  s = c.text

  abbrev named : Bool
  named = nat_lt 0 c.depth

  abbrev ignored : Bool
  ignored = ignored_by false lines s

  abbrev Has : ℕ → Type 0
  Has k = HasMatch top 0 lines k s

  -- the mark if an alternative that covers matches, and if none does
  by_top : top_test s lines ≡ true → cond named with_tree alone
      ≡ covered_mark (false || (named && top_test s lines)) ignored
  by_top e = go named ∙ sym (λ i. covered_mark (named && e i) (top_ignored s false lines e i))
    where
      go : (d : Bool) → cond d with_tree alone ≡ covered_mark (d && true) true
      go true = refl
      go false = refl

  by_line_alone : (odd : Bool) → top_test s lines ≡ false → odd ≡ ignored
      → cond odd alone kept ≡ covered_mark (false || (named && top_test s lines)) ignored
  by_line_alone odd e same = go named odd ∙ (λ i. covered_mark (named && sym e i) (same i))
    where
      go : (d o : Bool) → cond o alone kept ≡ covered_mark (d && false) o
      go true true = refl
      go true false = refl
      go false true = refl
      go false false = refl

  is_best : (r : ℕ) → ((k : ℕ) → Has k → k ≤ r) → (r ≡ 0) ⊎ Has r
      → top_test s lines ≡ false → is_odd r ≡ ignored
  is_best r greatest found none =
      let b = best s 0 0 lines in
      let up : b ≤ r = elim (best_found s 0 0 lines) [
        | inl e ↦ omega (arith, e)
        | inr m ↦ (let j = line_found s top 0 lines b (omega (arith, above)) m in
            omega (arith, j.1, greatest j.0 j.2))
      ] in
      let down : r ≤ b = elim found [
        | inl e ↦ omega (arith, e)
        | inr m ↦ elim (found_line s top 0 lines r m) [
          | inl t ↦ absurd (false≢true (sym none ∙ t.1))
          | inr l ↦ best_greatest s 0 0 lines r (omega arith) l
        ]
      ] in
      let same : r ≡ b = omega (arith, up, down) in
      ap is_odd same ∙ best_decides s 0 0 false lines refl

  by_test : (b : Bool) → top_test s lines ≡ b → (last : Option ℕ)
      → (top_test s lines ≡ true → last ≡ Some top)
      → (top_test s lines ≡ false → numbered_mark false top named last
      ≡ covered_mark (false || (named && top_test s lines)) ignored)
      → numbered_mark false top named last ≡ covered_mark (false || (named && top_test s lines)) ignored
  by_test true e last is other = ap (numbered_mark false top named) (is e)
      ∙ ap (λ b. cond b (cond named with_tree alone) (cond (is_odd top) alone kept)) (eq-eqb top top refl)
      ∙ by_top e
  by_test false e last is other = other e

  by_last : (last : Option ℕ) → (code : List _) → ((k : ℕ) → Accepts code 0 (s ++ mark k ∷ []) ↔ Has k)
      → IsLastNumber code s last
      → numbered_mark false top named last ≡ covered_mark (false || (named && top_test s lines)) ignored
  by_last None code means h = by_test (top_test s lines) refl None
      (λ e. absurd (h top ((means top).1 (covered_found s top 0 lines e))))
      (λ e. by_line_alone false e (is_best 0 (λ k m. absurd (h k ((means k).1 m))) (inl refl) e))
  by_last (Some r) code means h =
      let found : Has r = (means r).0 h.0 in
      let greatest : (k : ℕ) → Has k → k ≤ r = λ k m. h.1 k ((means k).1 m) in
      by_test (top_test s lines) refl (Some r)
      (λ e. (
      let up : top ≤ r = greatest top (covered_found s top 0 lines e) in
      ap Some (elim (found_line s top 0 lines r found) [
        | inl t ↦ t.0
        | inr l ↦ absurd (omega (arith, above, up, matched_most s 0 lines r l))
      ])))
      (λ e. (
      let other : (r == top) ≡ false = ne_eqb r top (λ same. elim (found_line s top 0 lines r found) [
        | inl t ↦ false≢true (sym e ∙ t.1)
        | inr l ↦ (let m = matched_most s 0 lines r l in omega (arith, above, same, m))
      ]) in
      ap (λ b. cond b (cond named with_tree alone) (cond (is_odd r) alone kept)) other
      ∙ by_line_alone (is_odd r) e (is_best r greatest (inr found) e)))

  decided : (all : Bool) → covers_everything lines ≡ all → (last : Option ℕ)
      → numbered_mark false top named last ≡ covered_mark (false || (named && top_test s lines)) ignored
      → numbered_mark all top named last
      ≡ covered_mark (covers_everything lines || (named && top_test s lines)) ignored
  decided true e last h = sym (ap (λ b. covered_mark (b || (named && top_test s lines)) ignored) e)
  decided false e last h = h ∙ sym (ap (λ b. covered_mark (b || (named && top_test s lines)) ignored) e)

-- the greatest number of an alternative that matches is odd exactly if the lines ignore the text
module _ (lines : List SplitLine) (top : ℕ) (above : length lines < top) (odd : is_odd top ≡ true)
    (s : List ℕ) where
  abbrev Matched : ℕ → Type 0
  Matched k = HasMatch top 0 lines k s

  abbrev Ignored : Type 0
  Ignored = IsTrue (ignored_by false lines s)

  abbrev alone_of : Candidate
  alone_of = record { names = []; text = s; depth = 0 }

  by_cover : (b : Bool) → top_test s lines ≡ b → HasOddLast Matched ↔ Ignored
  by_cover true e = (
    (λ h. top_ignored s false lines e),
    (λ h. record {
      last = top;
      holds = covered_found s top 0 lines e;
      greatest = λ k m. elim (found_line s top 0 lines k m) [
        | inl t ↦ omega (arith, t.0)
        | inr l ↦ (let few = matched_most s 0 lines k l in omega (arith, few, above))
      ];
      odd = odd;
    }),
  )
  by_cover false e = (
    (λ h. sym (is_best lines alone_of top above h.last h.greatest (inr h.holds) e) ∙ h.odd),
    (λ h. (
        let b = best s 0 0 lines in
        let decides : is_odd b ≡ ignored_by false lines s = best_decides s 0 0 false lines refl in
        elim (best_found s 0 0 lines) [
          | inl none ↦ absurd (false≢true (sym (ap is_odd none) ∙ decides ∙ h))
          | inr m ↦ (let j = line_found s top 0 lines b (omega (arith, above)) m in
              let least : (k : ℕ) → Matched k → k ≤ b = λ k w. elim (found_line s top 0 lines k w) [
                | inl t ↦ absurd (false≢true (sym e ∙ t.1))
                | inr l ↦ best_greatest s 0 0 lines k (omega arith) l
              ] in
              let few : j.0 ≤ b = least j.0 j.2 in
              let same : j.0 ≡ b = omega (arith, few, j.1) in
              record {
                last = b;
                holds = subst Matched same j.2;
                greatest = least;
                odd = decides ∙ h;
              })
        ])),
  )

  pub odd_selects : HasOddLast Matched ↔ Ignored
  odd_selects = by_cover (top_test s lines) refl

-- what the greatest number excludes of an entry is what the lines exclude
pub numbers_decide : (lines : List SplitLine) (numbered : NumberedLines) (c : Candidate) (last : Option ℕ)
    → KnowsLines lines numbered
    → IsLastNumber numbered.matcher c.text last
    → numbered_mark numbered.covers_all numbered.top (nat_lt 0 c.depth) last ≡ listed_mark lines c
numbers_decide lines numbered c last knows h =
    decided lines c numbered.top knows.above numbered.covers_all (sym knows.all) last
    (by_last lines c numbered.top knows.above last numbered.matcher (λ k. knows.means k c.text) h)
    ∙ ap (λ b. covered_mark b (ignored_by false lines c.text)) (sym (below_parts lines c))

odd_same : (P Q : ℕ → Type 0) → ((k : ℕ) → P k ↔ Q k) → HasOddLast P → HasOddLast Q
odd_same P Q same h = record {
  last = h.last;
  holds = (same h.last).0 h.holds;
  greatest = λ k q. h.greatest k ((same k).1 q);
  odd = h.odd;
}

-- the program selects what the lines ignore, by the greatest number
pub numbers_select : (lines : List SplitLine) (numbered : NumberedLines) (s : List ℕ)
    → KnowsLines lines numbered
    → HasOddLast (λ k. Accepts numbered.matcher 0 (s ++ mark k ∷ [])) ↔ IsTrue (ignored_by false lines s)
numbers_select lines numbered s knows =
    let decides = odd_selects lines numbered.top knows.above knows.odd s in
    let back : (k : ℕ) → HasMatch numbered.top 0 lines k s ↔ Accepts numbered.matcher 0 (s ++ mark k ∷ []) =
    λ k. ((knows.means k s).1, (knows.means k s).0) in (
      (λ h. decides.0 (odd_same _ _ (λ k. knows.means k s) h)),
      (λ h. odd_same _ _ back (decides.1 h)),
    )
