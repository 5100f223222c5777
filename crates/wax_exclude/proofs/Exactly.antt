-- A least walk lists exactly the folders of the plain walk that it may.
use Rattle.std.proofs.Common.{◌≡◌, ◌↔◌, ℕ, Bool, true, false, ◌⊎◌, cond, List, [], ◌∷◌, ◌++◌, map, refl, sym}
use Rattle.std.proofs.Common.{◌+◌, ◌≤◌, Option, ap, length, length-append, subst, ◌∙◌, inl, inr, arith}
use Rattle.std.proofs.{Common.{append_assoc, append-nil, chars}, lemmas.List.{append_cancel_left, map-append}}
use Rattle.std.proofs.lemmas.List.Elements.{All-contains, Contains-append_left, Contains-append_right}
use Rattle.std.specs.{List.Contains, Str.all_scalars}
use Rattle.wax_directory.specs.{Names.names_in_path, Shown.{Shown, join}}
use Rattle.wax_token.specs.Meaning.{HasNoSlash, Means}
use Rattle.wax_tree.specs.{Begins.Origin, declared.steps.DepthRange.DepthRange, Prefix.{ArePlain, path_from}}
use Rattle.wax_tree.specs.Programs.{limit_below}
use Rattle.wax_walk.specs.Forest.{Forest, nothing, item, lists, listings, filtered}
use Rattle.wax_walk.specs.{Given.{Facts, Mark, Given, changed_by, cut_by}, Pruned.{is_closed, pruned}}
use Rattle.wax_exclude.proofs.Closed.{plain_later, loses_shut}
use Rattle.wax_exclude.proofs.Names.{length_names, names_bytes, names_chars, names_in_joined}
use Rattle.wax_exclude.proofs.{LimitsBelow.allows_both, Opened.opens_few}
use Rattle.wax_exclude.proofs.Staying.{Each, each_more, each_filtered, all_listed}
use Rattle.wax_query.proofs.Ends.{closed_name, open_append}
use Rattle.wax_query.specs.{Ranges.AtMost, Below.{AreNames, joined_names, slashed, ends_open}}
use Rattle.wax_exclude.specs.{Candidates.text_at, Premises.IsPlainShown}
use Rattle.wax_exclude.specs.Pruned.{MeansLonger, TestsBelow, opens_where, least_rules, least_walk}
use Rattle.wax_exclude.specs.Pruned.{CanWalkLeast, MayOpen, IsUnmeantBelow, SomeCovers, IsCoveredBelow}
use Rattle.wax_exclude.specs.{Walked.{AreUncovered, origin_walk}, Wanted.{Filter, Wanted, stacked}}

-- ---- paths tell their names

-- what names add to a path, which is open or not
abbrev tail : Bool → List (List ℕ) → List ℕ
tail true names = joined_names names
tail false names = slashed names

closed_slash : (x : List ℕ) → ¬ (x ≡ []) → HasNoSlash x → ends_open (47 ∷ x) ≡ false
closed_slash [] some none = absurd (some refl)
closed_slash (c ∷ x) some none = closed_name (c ∷ x) some none

closed_more : (path x : List ℕ) → ¬ (x ≡ []) → HasNoSlash x → ends_open (path ++ x) ≡ false
closed_more path [] some none = absurd (some refl)
closed_more path (c ∷ x) some none = open_append path c x ∙ closed_name (c ∷ x) some none

closed_join : (b : Bool) (path x : List ℕ) → ¬ (x ≡ []) → HasNoSlash x
    → ends_open (cond b (path ++ x) (path ++ 47 ∷ x)) ≡ false
closed_join true path x some none = closed_more path x some none
closed_join false path x some none = open_append path 47 x ∙ closed_slash x some none

tail_join : (b : Bool) (path x : List ℕ) (names : List (List ℕ))
    → cond b (path ++ x) (path ++ 47 ∷ x) ++ slashed names ≡ path ++ tail b (x ∷ names)
tail_join true path x names = append_assoc path x (slashed names)
tail_join false path x names = append_assoc path (47 ∷ x) (slashed names)

tail_none : (b : Bool) → tail b [] ≡ []
tail_none true = refl
tail_none false = refl

path_tail : (path : List ℕ) (names : List (List ℕ)) → AreNames names
    → path_from path names ≡ path ++ tail (ends_open path) names
path_tail path [] h = sym (append-nil path) ∙ ap (λ v. path ++ v) (sym (tail_none (ends_open path)))
path_tail path (x ∷ names) h =
    path_tail (join path x) names h.2
    ∙ ap (λ b. join path x ++ tail b names) (closed_join (ends_open path) path x h.0 h.1)
    ∙ tail_join (ends_open path) path x names

slashed_names : (names : List (List ℕ)) → AreNames names → names_in_path (slashed names) ≡ names
slashed_names [] h = refl
slashed_names (n ∷ names) h = names_in_joined true (n ∷ names) h

tail_names : (b : Bool) (names : List (List ℕ)) → AreNames names → names_in_path (tail b names) ≡ names
tail_names true names h = names_in_joined false names h
tail_names false names h = slashed_names names h

-- names that lead to one path are the same
pub same_names : (path : List ℕ) (xs ys : List (List ℕ)) → AreNames xs → AreNames ys
    → path_from path xs ≡ path_from path ys → xs ≡ ys
same_names path xs ys h k e =
    let b = ends_open path in
    let t : tail b xs ≡ tail b ys =
    append_cancel_left path (tail b xs) (tail b ys) (sym (path_tail path xs h) ∙ e ∙ path_tail path ys k) in
    sym (tail_names b xs h) ∙ ap names_in_path t ∙ tail_names b ys k

-- ---- what is listed was listed before

each_itself : (f : Forest Given) → Each (Contains (listings f)) f
each_itself nothing = tt
each_itself (item x below after) =
    let all = listings below ++ listings after in (
      each_more (Contains (listings below)) (Contains all)
          (λ path c. Contains-append_left (listings below) (listings after) path c) below (each_itself below),
      each_more (Contains (listings after)) (Contains all)
          (λ path c. Contains-append_right (listings below) (listings after) path c)
          after (each_itself after),
    )
each_itself (lists path after) = (
  Contains-append_left (path ∷ []) (listings after) path (0, omega arith, refl),
  each_more (Contains (listings after)) (Contains (path ∷ listings after))
      (λ p c. Contains-append_right (path ∷ []) (listings after) p c) after (each_itself after),
)

each_stacked : (P : List ℕ → Type 0) (rules : List (Facts → Mark)) (f : Forest Given) → Each P f
    → Each P (stacked rules f)
each_stacked P [] f h = h
each_stacked P (rule ∷ rules) f h =
    let change = changed_by rule in
    let cut = cut_by rule in
    each_stacked P rules (filtered change cut f) (each_filtered P change cut f h)

listed_before : (opens : Facts → Bool) (rules : List (Facts → Mark)) (f : Forest Given) (path : List ℕ)
    → Contains (listings (stacked rules (pruned opens f))) path → Contains (listings f) path
listed_before opens rules f path c =
    let P = Contains (listings f) in
    let h = each_stacked P rules (pruned opens f)
    (each_filtered P (λ x. x) (is_closed opens) f (each_itself f)) in
    All-contains P (listings (stacked rules (pruned opens f))) path
    (all_listed P (stacked rules (pruned opens f)) h) c

-- ---- what may be listed isn't lost

append_names : (xs ys : List (List ℕ)) → AreNames xs → AreNames ys → AreNames (xs ++ ys)
append_names [] ys h k = k
append_names (x ∷ xs) ys h k = (h.0, h.1, append_names xs ys h.2 k)

some_append : (xs ys : List (List ℕ)) → ¬ (ys ≡ []) → ¬ (xs ++ ys ≡ [])
some_append [] ys h e = h e
some_append (x ∷ xs) ys h e = cc

-- what is meant below longer names down to a greatest depth is meant below the first few
pub means_shorter : {A : Type 0} (w : Wanted A) (greatest depth : ℕ) (front back : List (List ℕ))
    → depth + length back ≤ greatest → AreNames back
    → MeansLonger w.rooted w.glob (limit_below greatest (depth + length back)) (front ++ back)
    → MeansLonger w.rooted w.glob (limit_below greatest depth) front
means_shorter w greatest depth front back fits h (more, some, names, few, all, means) = (
  back ++ more,
  some_append back more some,
  append_names back more h names,
  subst (λ n. AtMost n (limit_below greatest depth)) (sym (length-append back more))
      (allows_both greatest depth (length back) (length more) fits few),
  subst (λ v. all_scalars (text_at w.rooted v) ≡ true) (append_assoc front back more) all,
  subst (λ v. Means w.glob false false (text_at w.rooted v)) (append_assoc front back more) means,
)

not_covered : {A : Type 0} (rooted : Bool) (filters : List (Filter A)) (names : List (List ℕ))
    → AreUncovered rooted filters names → SomeCovers rooted filters names → ⊥
not_covered rooted [] names h c = c
not_covered rooted (x ∷ filters) names h (inl (front, back, e, excludes)) = h.0 front back e excludes
not_covered rooted (x ∷ filters) names h (inr c) = not_covered rooted filters names h.1 c

module _ {A : Type 0} (w : Wanted A) (range : DepthRange) (origin : Origin) (path : List ℕ) where
  abbrev start : List ℕ
  start = path_from origin.path origin.names

  -- they are names of the path as they are those of the folder that may be listed
  its_names : (may : MayOpen w range origin path) (names : List (List ℕ)) → ArePlain (origin.names ++ names)
      → path ≡ path_from start names → may.names ≡ names
  its_names may names p e =
      same_names start may.names names
      (names_bytes may.names (plain_later origin.names may.names may.are_plain))
      (names_bytes names (plain_later origin.names names p)) (sym may.path_is ∙ e)

  pub not_unmeant : MayOpen w range origin path → IsUnmeantBelow w range origin path → ⊥
  not_unmeant may (front, back, p, e, none) =
      let same = its_names may (front ++ back) p e in
      let before = origin.names ++ front in
      let split : map chars (origin.names ++ may.names) ≡ map chars before ++ map chars back =
      ap (λ v. map chars (origin.names ++ v)) same
      ∙ ap (map chars) (sym (append_assoc origin.names front back))
      ∙ map-append chars before back in
      let count : length (origin.names ++ may.names) ≡ length before + length (map chars back) =
      ap (λ v. length (origin.names ++ v)) same
      ∙ ap length (sym (append_assoc origin.names front back))
      ∙ length-append before back ∙ ap (λ n. length before + n) (sym (length_names back)) in
      let plain = plain_later before back (subst ArePlain (sym (append_assoc origin.names front back)) p) in
      none (means_shorter w range.max (length before) (map chars before) (map chars back)
      (omega (arith, count, may.above_greatest)) (names_chars back plain)
      (subst (λ n. MeansLonger w.rooted w.glob (limit_below range.max n) (map chars before ++ map chars back))
      count (subst (MeansLonger w.rooted w.glob (limit_below range.max (length (origin.names ++ may.names))))
      split may.means_longer)))

  pub not_shut : MayOpen w range origin path → IsCoveredBelow w origin path → ⊥
  not_shut may (names, p, e, c) =
      let same = its_names may names p e in
      not_covered w.rooted w.filters (map chars (origin.names ++ names))
      (subst (λ v. AreUncovered w.rooted w.filters (map chars (origin.names ++ v))) same may.uncovered) c

-- a least walk lists exactly those folders of the plain walk that it may: below which something is meant, and
-- which no filter excludes with everything below
pub lists_exactly : {A : Type 0} (w : Wanted A) (goes : Option ℕ → List ℕ → Bool)
    (tested : TestsBelow goes w.rooted w.glob)
    (asked walked : DepthRange) (origin : Origin) → CanWalkLeast w asked walked origin
    → (s : Shown) → IsPlainShown s
    → (path : List ℕ) → Contains (listings (least_walk goes asked.min w walked origin s)) path
    ↔ Contains (listings (origin_walk walked origin s)) path × MayOpen w walked origin path
lists_exactly w goes tested asked walked origin can s t path =
    let f = origin_walk walked origin s in
    let rules = least_rules asked.min w in
    let now = listings (least_walk goes asked.min w walked origin s) in
    let lost = loses_shut w goes tested asked.min walked origin can.candidate can.plain s t in (
      λ c. (
        listed_before (opens_where goes walked.max) rules f path c,
        All-contains (MayOpen w walked origin) now path
            (opens_few w goes tested asked walked origin can s t) c,
      ),
      λ (c, may). elim (All-contains
          (λ p. Contains now p ⊎ (IsUnmeantBelow w walked origin p ⊎ IsCoveredBelow w origin p))
          (listings f) path lost c) [
            | inl listed ↦ listed
            | inr (inl none) ↦ absurd (not_unmeant w walked origin path may none)
            | inr (inr shut) ↦ absurd (not_shut w walked origin path may shut)
          ],
    )
