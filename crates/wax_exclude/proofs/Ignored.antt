-- What a list of lines ignores, and what lies below that.
use Rattle.std.proofs.Common.{◌≡◌, ℕ, Bool, true, false, ◌&&◌, not, cond, List, [], ◌∷◌, ◌++◌, refl, ap, ◌∙◌}
use Rattle.std.proofs.{Common.{inl, inr}, lemmas.Bool.and_from}
use Rattle.std.specs.Prelude.{IsTrue, ◌↔◌}
use Rattle.wax_facts.proofs.Means.{means_one_of}
use Rattle.wax_facts.specs.Alternatives.{alternatives}
use Rattle.wax_token.specs.{Decided.{means_test, means_tested}, Meaning.MeansSome, Syntax.Tree, Words.trees}
use Rattle.wax_walk.specs.Candidates.{Candidate}
use Rattle.wax_exclude.proofs.Descending.{covers_some_below, covered, covers_some_meant, keeps_uncovered}
use Rattle.wax_exclude.proofs.Tests.{and_true, or_true, or_left, or_right, covers_tested}
use Rattle.wax_exclude.specs.{Candidates.candidate_at, Covers.{CoversSome, covers_test}}
use Rattle.wax_exclude.specs.Ignored.{Line, ignored_after, is_ignored, all_ignore, IgnoresBelow, below_test}
use Rattle.wax_exclude.specs.{Ignored.ignore_mark, inner.Descents.Descends, inner.Stacks.keeps}
use Rattle.wax_exclude.specs.Marks.{covered_mark}

chosen_true : (b : Bool) → cond b true true ≡ true
chosen_true true = refl
chosen_true false = refl

module _ {A : Type 0} where
  pub below_tested : (lines : List (Line A)) (c : Candidate)
      → IsTrue (below_test lines c) ↔ IgnoresBelow lines c
  below_tested [] c = ((λ e. (cc)), (λ h. absurd h))
  below_tested (line ∷ lines) c =
      let ts = alternatives line.glob in
      let covers = all_ignore lines && covers_test ts c in
      let d = covers_tested ts c in
      let r = below_tested lines c in (
        (λ e. elim (or_true (line.ignores && covers) (below_test lines c) e) [
          | inl p ↦ (let q = and_true line.ignores covers p in
              let k = and_true (all_ignore lines) (covers_test ts c) q.1 in
              inl (q.0, k.0, d.0 k.1))
          | inr p ↦ inr (r.0 p)
        ]),
        (λ h. elim h [
          | inl p ↦ or_left (line.ignores && covers) (below_test lines c)
              (and_from line.ignores covers p.0 (and_from (all_ignore lines) (covers_test ts c) p.1
              (d.1 p.2)))
          | inr p ↦ or_right (line.ignores && covers) (below_test lines c) (r.1 p)
        ]),
      )

  ignores_below : (lines : List (Line A)) (rooted : Bool) (names others : List (List ℕ))
      → IgnoresBelow lines (candidate_at rooted names)
      → IgnoresBelow lines (candidate_at rooted (names ++ others))
  ignores_below [] rooted names others h = h
  ignores_below (line ∷ lines) rooted names others h = elim h [
    | inl c ↦ inl (c.0, c.1, covers_some_below (alternatives line.glob) rooted names others c.2)
    | inr c ↦ inr (ignores_below lines rooted names others c)
  ]

  pub ignore_descends : (rooted : Bool) (lines : List (Line A)) → Descends rooted (ignore_mark lines)
  ignore_descends rooted lines names others h e =
      let s = candidate_at rooted names in
      let u = candidate_at rooted (names ++ others) in
      ap (λ b. covered_mark b (is_ignored lines u.text))
      ((below_tested lines u).1 (ignores_below lines rooted names others
      ((below_tested lines s).0 (covered (below_test lines s) (is_ignored lines s.text) e))))

  stays_ignored : (lines : List (Line A)) (was : Bool) (s : List ℕ) → was ≡ true → all_ignore lines ≡ true
      → ignored_after was lines s ≡ true
  stays_ignored [] was s w h = w
  stays_ignored (line ∷ lines) was s w h =
      let k = and_true line.ignores (all_ignore lines) h in
      let d = means_test line.glob false false s in
      stays_ignored lines (cond d line.ignores was) s
      (ap (λ v. cond d v was) k.0 ∙ ap (λ v. cond d true v) w ∙ chosen_true d) k.1

  -- a text is ignored if all that covers the candidate means it
  pub below_ignored : (lines : List (Line A)) (was : Bool) (c : Candidate) (s : List ℕ)
      → ((ts : List (Tree A)) → CoversSome ts c → MeansSome (trees ts) false false s)
      → IgnoresBelow lines c → ignored_after was lines s ≡ true
  below_ignored [] was c s f h = absurd h
  below_ignored (line ∷ lines) was c s f h =
      let d = means_test line.glob false false s in
      elim h [
        | inl k ↦ (let m : d ≡ true = (means_tested line.glob false false s).1
            ((means_one_of line.glob (alternatives line.glob) refl false false s).1
            (f (alternatives line.glob) k.2)) in
            stays_ignored lines (cond d line.ignores was) s
            (ap (λ v. cond v line.ignores was) m ∙ k.0) k.1)
        | inr k ↦ below_ignored lines (cond d line.ignores was) c s f k
      ]

  covered_ignored : (lines : List (Line A)) (was : Bool) (c : Candidate) → IgnoresBelow lines c
      → ignored_after was lines c.text ≡ true
  covered_ignored lines was c h = below_ignored lines was c c.text (λ ts k. covers_some_meant ts c k) h

  -- a list keeps exactly what it doesn't ignore
  pub ignore_keeps : (lines : List (Line A)) (c : Candidate)
      → keeps (ignore_mark lines c) ≡ not (is_ignored lines c.text)
  ignore_keeps lines c = keeps_uncovered (below_test lines c) (is_ignored lines c.text)
      (λ e. covered_ignored lines false c ((below_tested lines c).0 e))
