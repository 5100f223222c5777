-- The tests are true exactly where what they test holds.
use Rattle.std.proofs.Common.{◌≡◌, ℕ, ◌≤◌, Bool, true, false, ◌&&◌, ◌||◌, ◌⊎◌, List, [], ◌∷◌, refl, ap}
use Rattle.std.proofs.{Common.{nat_lt, inl, inr}, lemmas.Bool.{and_from, ltb-true, lt-ltb}}
use Rattle.std.specs.Prelude.{IsTrue, ◌↔◌}
use Rattle.wax_token.specs.{Decided.{holds_truly, each_decided, means_test, means_tested}, Syntax.Tree}
use Rattle.wax_token.specs.Words.{members, trees}
use Rattle.wax_walk.specs.Candidates.{Candidate}
use Rattle.wax_exclude.specs.Covers.{is_everything, ends_wild, CoversSome, some_everything, WildMeans}
use Rattle.wax_exclude.specs.{Covers.{wild_test, covers_test}, Leading.{Lead, component_test, lead_test}}

pub and_true : (a b : Bool) → (a && b) ≡ true → (a ≡ true) × (b ≡ true)
and_true true b e = (refl, e)
and_true false b e = cc

pub or_true : (a b : Bool) → (a || b) ≡ true → (a ≡ true) ⊎ (b ≡ true)
or_true true b e = inl refl
or_true false b e = inr e

pub or_left : (a b : Bool) → a ≡ true → (a || b) ≡ true
or_left a b e = ap (λ v. v || b) e

pub or_right : (a b : Bool) → b ≡ true → (a || b) ≡ true
or_right true b e = refl
or_right false b e = e

module _ {A : Type 0} where
  pub lead_tested : (cs : List (List (Tree A))) (names : List (List ℕ))
      → IsTrue (lead_test cs names) ↔ Lead cs names
  lead_tested [] names = ((λ e. tt), (λ h. refl))
  lead_tested (c ∷ cs) [] = ((λ e. tt), (λ h. refl))
  lead_tested (c ∷ cs) (n ∷ names) =
      let d = holds_truly (each_decided (trees c) false false n) in
      let r = lead_tested cs names in (
        (λ e. (let p = and_true (component_test c n) (lead_test cs names) e in (d.0 p.0, r.0 p.1))),
        (λ h. and_from (component_test c n) (lead_test cs names) (d.1 h.0) (r.1 h.1)),
      )

  pub wild_tested : (ts : List (Tree A)) (s : List ℕ) → IsTrue (wild_test ts s) ↔ WildMeans ts s
  wild_tested [] s = ((λ e. (cc)), (λ h. absurd h))
  wild_tested (t ∷ ts) s =
      let ends = ends_wild (members t) in
      let meant = means_test t false false s in
      let d = means_tested t false false s in
      let r = wild_tested ts s in (
        (λ e. elim (or_true (ends && meant) (wild_test ts s) e) [
          | inl p ↦ (let q = and_true ends meant p in inl (q.0, d.0 q.1))
          | inr p ↦ inr (r.0 p)
        ]),
        (λ h. elim h [
          | inl p ↦ or_left (ends && meant) (wild_test ts s) (and_from ends meant p.0 (d.1 p.1))
          | inr p ↦ or_right (ends && meant) (wild_test ts s) (r.1 p)
        ]),
      )

  everything_covers : (ts : List (Tree A)) (c : Candidate) → some_everything ts ≡ true → CoversSome ts c
  everything_covers [] c e = cc
  everything_covers (t ∷ ts) c e = elim (or_true (is_everything (members t)) (some_everything ts) e) [
    | inl p ↦ inl (inl p)
    | inr p ↦ inr (everything_covers ts c p)
  ]

  wild_covers : (ts : List (Tree A)) (c : Candidate) → 1 ≤ c.depth → WildMeans ts c.text → CoversSome ts c
  wild_covers [] c l h = h
  wild_covers (t ∷ ts) c l h = elim h [ inl p ↦ inl (inr (p.0, p.1, l)) | inr p ↦ inr (wild_covers ts c l p) ]

  covered_so : (ts : List (Tree A)) (c : Candidate) → CoversSome ts c
      → (some_everything ts ≡ true) ⊎ ((1 ≤ c.depth) × WildMeans ts c.text)
  covered_so [] c h = absurd h
  covered_so (t ∷ ts) c (inl (inl e)) = inl (or_left (is_everything (members t)) (some_everything ts) e)
  covered_so (t ∷ ts) c (inl (inr h)) = inr (h.2, inl (h.0, h.1))
  covered_so (t ∷ ts) c (inr h) = elim (covered_so ts c h) [
    | inl e ↦ inl (or_right (is_everything (members t)) (some_everything ts) e)
    | inr k ↦ inr (k.0, inr k.1)
  ]

  pub covers_tested : (ts : List (Tree A)) (c : Candidate) → IsTrue (covers_test ts c) ↔ CoversSome ts c
  covers_tested ts c =
      let named = nat_lt 0 c.depth in
      let wild = wild_test ts c.text in (
        (λ e. elim (or_true (some_everything ts) (named && wild) e) [
          | inl p ↦ everything_covers ts c p
          | inr p ↦ (let q = and_true named wild p in
              wild_covers ts c (ltb-true 0 c.depth q.0) ((wild_tested ts c.text).0 q.1))
        ]),
        (λ h. elim (covered_so ts c h) [
          | inl p ↦ or_left (some_everything ts) (named && wild) p
          | inr p ↦ or_right (some_everything ts) (named && wild)
              (and_from named wild (lt-ltb 0 c.depth p.0) ((wild_tested ts c.text).1 p.1))
        ]),
      )
