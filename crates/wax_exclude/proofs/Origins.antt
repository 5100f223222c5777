-- Where walks of globs and sets may begin, and how far they may go.
use Rattle.std.proofs.Common.{◌≡◌, ◌≤◌, ◌⊎◌, ℕ, Bool, true, false, List, Option, Some, None, map, min, inl}
use Rattle.std.proofs.{Common.{inr, refl, subst, arith, chars}, lemmas.Bool.cases_lt}
use Rattle.wax_query.specs.{Components.component_total, Ranges.{AtMost, Bounds}}
use Rattle.wax_token.specs.{Meaning.Means, Reads.Span, Syntax.Tree}
use Rattle.wax_tree.specs.{Prefix.ArePlain, declared.steps.DepthRange.DepthRange}
use Rattle.wax_exclude.proofs.Beginnings.{bounds_names}
use Rattle.wax_exclude.specs.{BeginsRequest.{origin_from, up_to, walked_by}, Candidates.base}
use Rattle.wax_exclude.specs.{Premises.{BeginsWith, BoundsNames}, Pruned.{CanWalkLeast, by_matches}}
use Rattle.wax_exclude.specs.Wanted.{Wanted}

pub candidate_is : (start : List ℕ) (rooted : Bool) (names : List (List ℕ))
    → (origin_from start rooted names).candidate ≡ base rooted
candidate_is start true names = refl
candidate_is start false names = refl

pub names_are : (start : List ℕ) (rooted : Bool) (names : List (List ℕ))
    → names ≡ (origin_from start rooted names).names
names_are start true names = refl
names_are start false names = refl

pub greatest_at : {A : Type 0} (t : Tree A) (rooted : Bool) (most : ℕ) (upper : Option ℕ)
    → ((s : List ℕ) → Means t false false s → AtMost (component_total s) upper)
    → (up_to most upper ≡ most) ⊎ ((up_to most upper ≤ most) × BoundsNames rooted t (up_to most upper))
greatest_at t rooted most None h = inl refl
greatest_at t rooted most (Some upper) h = elim (cases_lt upper most) [
  | inl l ↦ (
      let e : upper ≡ min most upper = omega (arith, l) in
      inr (omega (arith, l), subst (BoundsNames rooted t) e (bounds_names t upper h rooted)))
  | inr l ↦ inl (omega (arith, l))
]

pub can_least : (w : Wanted Span) (start : List ℕ) (asked : DepthRange) (depth : Bounds)
    (names : List (List ℕ))
    → ((s : List ℕ) → Means w.glob false false s → AtMost (component_total s) depth.1)
    → BeginsWith w.rooted w.glob (map chars names) → ArePlain names
    → CanWalkLeast w asked (walked_by by_matches asked depth) (origin_from start w.rooted names)
can_least w start asked depth names bound begins plain =
    let same = names_are start w.rooted names in record {
      least = refl;
      greatest = greatest_at w.glob w.rooted asked.max depth.1 bound;
      candidate = candidate_is start w.rooted names;
      begins = subst (λ ns. BeginsWith w.rooted w.glob (map chars ns)) same begins;
      plain = subst ArePlain same plain;
    }
