-- What a least walk doesn't list: only what lies below folders below which nothing is meant, or that a filter
-- excludes with everything below.
use Rattle.std.proofs.Common.{◌≡◌, ℕ, Bool, true, false, ◌&&◌, not, ◌⊎◌, List, [], ◌∷◌, ◌++◌, map, refl, sym}
use Rattle.std.proofs.Common.{Option, ap, subst, ◌∙◌, inl, inr, append_assoc, append-nil, chars}
use Rattle.std.proofs.{lemmas.List.map-append, lemmas.List.Elements.{All-contains, All-weaker}}
use Rattle.std.specs.{List.Contains, Prelude.{All, nat_lt}}
use Rattle.wax_facts.specs.Alternatives.{alternatives}
use Rattle.wax_directory.specs.Shown.{Shown, a_leaf, a_folder, a_sealed, missing, failing, child_in}
use Rattle.wax_token.specs.Decided.{means_test}
use Rattle.wax_tree.specs.{Begins.{Origin, origin_location, scope_in}, Walking.entry_location}
use Rattle.wax_tree.specs.{declared.steps.DepthRange.DepthRange, Plain.{WalkScope, Location, plain_at}}
use Rattle.wax_tree.specs.Prefix.{ArePlain, path_from, walk_from}
use Rattle.wax_walk.specs.{Candidates.{Candidate, of_candidate}, Forest.{Forest, nothing, listings}}
use Rattle.wax_walk.specs.{Given.{Facts, Mark, with_tree, Given, entry}, Pruned.{is_closed, pruned}}
use Rattle.wax_exclude.proofs.{Closing.{never_whole, none_meant}, Descending.covered, Headline.at_start}
use Rattle.wax_exclude.proofs.{Ignored.below_tested, Names.{at_join, at_sees}, Reaching.plain_child}
use Rattle.wax_exclude.proofs.Staying.{OfNames, AllLose, Lie, lie_at, lie_filtered, stay, stay_stacked}
use Rattle.wax_exclude.proofs.Tests.{covers_tested}
use Rattle.wax_exclude.specs.{Candidates.{base, candidate_at}, Covers.covers_test}
use Rattle.wax_exclude.specs.{Ignored.{is_ignored, below_test}, inner.Descents.{At, child_location}}
use Rattle.wax_exclude.specs.Premises.{IsPlainShown}
use Rattle.wax_exclude.specs.Pruned.{TestsBelow, opens_where, least_rules, IsUnmeantBelow, IsCovered}
use Rattle.wax_exclude.specs.{Pruned.{SomeCovers, IsCoveredBelow}, Walked.{ExcludesBelow, origin_walk}}
use Rattle.wax_exclude.specs.Wanted.{Filter, not_meant, not_ignored, Wanted, stacked, filter_mark}
use Rattle.wax_exclude.specs.Wanted.{filter_rules}

pub plain_later : (names others : List (List ℕ)) → ArePlain (names ++ others) → ArePlain others
plain_later [] others h = h
plain_later (n ∷ names) others h = plain_later names others h.1

pub plain_both : (names others : List (List ℕ)) → ArePlain names → ArePlain others
    → ArePlain (names ++ others)
plain_both [] others h k = k
plain_both (n ∷ names) others h k = (h.0, plain_both names others h.1 k)

-- a filter that marks an entry as excluded with everything below it excludes it so
said_below : {A : Type 0} (x : Filter A) (c : Candidate) → filter_mark x c ≡ with_tree → ExcludesBelow x c
said_below (not_meant t) c e =
    (covers_tested (alternatives t) c).0
    (covered (covers_test (alternatives t) c) (means_test t false false c.text) e)
said_below (not_ignored lines) c e =
    (below_tested lines c).0 (covered (below_test lines c) (is_ignored lines c.text) e)

-- what is lost to the one filter or to the other is lost
lost_then : (Gone : List ℕ → Type 0) (xs ys zs : List (List ℕ))
    → All (λ path. Contains ys path ⊎ Gone path) xs
    → All (λ path. Contains zs path ⊎ Gone path) ys → All (λ path. Contains zs path ⊎ Gone path) xs
lost_then Gone xs ys zs h k =
    All-weaker (λ path. Contains ys path ⊎ Gone path) (λ path. Contains zs path ⊎ Gone path)
    (λ path s. elim s [
      | inl c ↦ All-contains (λ path. Contains zs path ⊎ Gone path) ys path k c
      | inr g ↦ inr g
    ]) xs h

module _ {A : Type 0} (w : Wanted A) (goes : Option ℕ → List ℕ → Bool)
    (tested : TestsBelow goes w.rooted w.glob) (least : ℕ)
    (range : DepthRange) (origin : Origin) where
  abbrev scope : WalkScope
  scope = scope_in range

  abbrev start : List ℕ
  start = path_from origin.path origin.names

  abbrev Of : Facts → List ℕ → Type 0
  Of f path = OfNames scope start w.rooted origin.names f path

  abbrev pub Shut : List ℕ → Type 0
  Shut path = IsUnmeantBelow w range origin path ⊎ IsCoveredBelow w origin path

  abbrev at_of : Facts → Location
  at_of f = entry_location f

  plain_all : (names more : List (List ℕ)) → ArePlain (origin.names ++ names) → ArePlain more
      → ArePlain (origin.names ++ (names ++ more))
  plain_all names more h k =
      subst ArePlain (append_assoc origin.names names more) (plain_both (origin.names ++ names) more h k)

  closes : (m : Mark) (f : Facts) (path : List ℕ) → Of f path
      → is_closed (opens_where goes range.max) (entry m f) ≡ true
      → IsUnmeantBelow w range origin path
  closes m f path (names, a, (more, p, e)) i = (
    names,
    more,
    plain_all names more a.are_plain p,
    e,
    none_meant w goes tested scope (at_of f) f.kind (origin.names ++ names) a i,
  )

  covers : (x : Filter A) (f : Facts) (path : List ℕ) → Of f path → of_candidate (filter_mark x) f ≡ with_tree
      → (names : List (List ℕ)) × ArePlain (origin.names ++ names) × (path ≡ path_from start names)
      × IsCovered w.rooted x (map chars (origin.names ++ names))
  covers x f path (names, a, (more, p, e)) i =
      let cs = map chars (origin.names ++ names) in
      let marked : filter_mark x (candidate_at w.rooted cs) ≡ with_tree =
      ap (filter_mark x) (sym (at_sees w.rooted (at_of f) (origin.names ++ names) a)) ∙ i in
      let joined : cs ++ map chars more ≡ map chars (origin.names ++ (names ++ more)) =
      sym (map-append chars (origin.names ++ names) more)
      ∙ ap (map chars) (append_assoc origin.names names more) in (
        names ++ more,
        plain_all names more a.are_plain p,
        e,
        (cs, map chars more, joined, said_below x (candidate_at w.rooted cs) marked),
      )

  filters_lose : (filters : List (Filter A))
      → ((names : List (List ℕ)) → SomeCovers w.rooted filters names → SomeCovers w.rooted w.filters names)
      → AllLose Of Shut (filter_rules filters)
  filters_lose [] g = tt
  filters_lose (x ∷ filters) g = (
    λ f path o i.
        let c = covers x f path o i in
        inr (c.0, c.1, c.2, g (map chars (origin.names ++ c.0)) (inl c.3)),
    filters_lose filters (λ names h. g names (inr h)),
  )

  rules_lose : AllLose Of Shut (least_rules least w)
  rules_lose = (
    λ f path o i.
        let meant = means_test w.glob false false (chars f.candidate) in
        absurd (never_whole (not (nat_lt f.depth least) && meant) i),
    filters_lose w.filters (λ names h. h),
  )

  abbrev opens : Facts → Bool
  opens = opens_where goes range.max

  abbrev Loses : Forest Given → Type 0
  Loses f =
      All (λ path. Contains (listings (pruned opens f)) path ⊎ IsUnmeantBelow w range origin path)
      (listings f)

  abbrev LosesAll : Forest Given → Type 0
  LosesAll f =
      All (λ path. Contains (listings (stacked (least_rules least w) (pruned opens f))) path ⊎ Shut path)
      (listings f)

  lies : (at : Location) (s : Shown) → at.path ≡ start → At w.rooted at origin.names → IsPlainShown s
      → Lie Of (plain_at scope at s nothing)
  lies at s e a x = lie_at scope start w.rooted origin.names at s e a x

  loses_at : (f : Forest Given) → Lie Of f → Loses f
  loses_at f h = stay (λ y. y) (is_closed opens) (IsUnmeantBelow w range origin) Of closes f h

  loses_all_at : (f : Forest Given) → Lie Of f → LosesAll f
  loses_all_at f h =
      let cut = is_closed opens in
      let once = pruned opens f in
      lost_then Shut (listings f) (listings once) (listings (stacked (least_rules least w) once))
      (stay (λ y. y) cut Shut Of (λ m g path o i. inl (closes m g path o i)) f h)
      (stay_stacked Of Shut (least_rules least w) rules_lose once
      (lie_filtered Of (λ y. y) cut (λ y path o. o) f h))

  lies_along : (names : List (List ℕ)) (at : Location) (done : List (List ℕ)) (s : Shown) → ArePlain names
      → At w.rooted at done → IsPlainShown s → done ++ names ≡ origin.names → path_from at.path names ≡ start
      → Lie Of (walk_from scope at s names nothing)
  lies_along [] at done s n a x e f =
      lies at s f (subst (λ v. At w.rooted at v) (sym (append-nil done) ∙ e) a) x
  lies_along (x ∷ names) at done (a_leaf link) n a s e f = (tt, tt, tt)
  lies_along (x ∷ names) at done a_sealed n a s e f = (tt, tt, tt)
  lies_along (x ∷ names) at done missing n a s e f = (tt, tt, tt)
  lies_along (x ∷ names) at done failing n a s e f = (tt, tt, tt)
  lies_along (x ∷ names) at done (a_folder l) n a s e f =
      lies_along names (child_location at x) (done ++ x ∷ []) (child_in x l) n.1
      (at_join w.rooted at done x a n.0) (plain_child x l s) (append_assoc done (x ∷ []) names ∙ e) f

  module _ (begins : origin.candidate ≡ base w.rooted) (plain : ArePlain origin.names) (s : Shown)
      (t : IsPlainShown s) where
    lies_origin : Lie Of (origin_walk range origin s)
    lies_origin =
        lies_along origin.names (origin_location origin) [] s plain (at_start w origin begins) t refl refl

    -- each folder of the walk is listed by the pruned one, or it is or lies below a folder
    -- below which nothing is meant
    pub loses_unmeant : Loses (origin_walk range origin s)
    loses_unmeant = loses_at (origin_walk range origin s) lies_origin

    -- each folder of the walk is listed by the least walk, or it is or lies below a folder below which
    -- nothing is meant, or one that a filter excludes with everything below it
    pub loses_shut : LosesAll (origin_walk range origin s)
    loses_shut = loses_all_at (origin_walk range origin s) lies_origin
