-- What all filters leave are the entries that each of them keeps.
use Rattle.std.proofs.Common.{◌≡◌, Bool, true, false, ◌&&◌, cond, List, [], ◌∷◌, ◌++◌, refl, sym, ap, ◌∙◌}
use Rattle.std.proofs.lemmas.List.Elements.{filter-append}
use Rattle.std.specs.Prelude.{filter}
use Rattle.wax_walk.specs.Forest.{Forest, nothing, item, lists, preorder, filtered}
use Rattle.wax_walk.specs.Given.{Facts, Mark, kept, alone, with_tree, Given, entry, fault, no_memory}
use Rattle.wax_walk.specs.Given.{combined_mark, is_cut, changed_by, cut_by}
use Rattle.wax_exclude.specs.Wanted.{stacked, is_kept_entry}
use Rattle.wax_exclude.specs.inner.Stacks.{keeps, all_keep, is_left, LeavesOutWhole, LeavesOutAll}
use Rattle.wax_exclude.specs.inner.Stacks.{IsEntryLeftOut, PassesDown, AllPassDown}

module _ (rule : Facts → Mark) (rules : List (Facts → Mark)) where
  unwanted : (x : Given) → LeavesOutWhole rule x → is_left (rule ∷ rules) x ≡ false
  unwanted (entry kept f) e = ap (λ m. keeps m && all_keep rules f) e
  unwanted (entry alone f) e = refl
  unwanted (entry with_tree f) e = refl
  unwanted (fault kind path depth) e = refl
  unwanted no_memory e = refl

  none_wanted : (f : Forest Given) → LeavesOutAll rule f → filter (is_left (rule ∷ rules)) (preorder f) ≡ []
  none_wanted nothing h = refl
  none_wanted (lists path after) h = none_wanted after h
  none_wanted (item x below after) h =
      let ys = preorder below ++ preorder after in
      ap (λ b. cond b (x ∷ filter (is_left (rule ∷ rules)) ys) (filter (is_left (rule ∷ rules)) ys))
      (unwanted x h.0)
      ∙ filter-append (is_left (rule ∷ rules)) (preorder below) (preorder after)
      ∙ ap (λ zs. zs ++ filter (is_left (rule ∷ rules)) (preorder after)) (none_wanted below h.1)
      ∙ none_wanted after h.2

  -- an entry that is kept stays as it is
  pick : (x : Given) (ys : List Given) → cond (is_left rules (changed_by rule x)) (changed_by rule x ∷ ys)
      ys ≡ cond (is_left (rule ∷ rules) x) (x ∷ ys) ys
  pick (entry kept f) ys = go (rule f) where
    go : (m : Mark) → cond (is_left rules (entry (combined_mark kept m) f))
        (entry (combined_mark kept m) f ∷ ys) ys ≡ cond (keeps m && all_keep rules f) (entry kept f ∷ ys) ys
    go kept = refl
    go alone = refl
    go with_tree = refl
  pick (entry alone f) ys = go (rule f) where
    go : (m : Mark) → cond (is_left rules (entry (combined_mark alone m) f))
        (entry (combined_mark alone m) f ∷ ys) ys ≡ ys
    go kept = refl
    go alone = refl
    go with_tree = refl
  pick (entry with_tree f) ys = refl
  pick (fault kind path depth) ys = refl
  pick no_memory ys = refl

  pub cut_left : (x : Given) → cut_by rule x ≡ true → IsEntryLeftOut rule x
  cut_left (entry kept f) e = go (rule f) e where
    go : (m : Mark) → is_cut (entry kept f) m ≡ true → m ≡ with_tree
    go kept e = cc
    go alone e = cc
    go with_tree e = refl
  cut_left (entry alone f) e = go (rule f) e where
    go : (m : Mark) → is_cut (entry alone f) m ≡ true → m ≡ with_tree
    go kept e = cc
    go alone e = cc
    go with_tree e = refl
  cut_left (entry with_tree f) e = cc
  cut_left (fault kind path depth) e = cc
  cut_left no_memory e = cc

  below_cut : (below : Forest Given) (b : Bool) → (b ≡ true → LeavesOutAll rule below)
      → filter (is_left rules) (preorder (filtered (changed_by rule) (cut_by rule) below)) ≡ filter
      (is_left (rule ∷ rules)) (preorder below)
      → filter (is_left rules) (preorder (cond b nothing (filtered (changed_by rule) (cut_by rule) below)))
      ≡ filter (is_left (rule ∷ rules)) (preorder below)
  below_cut below true h e = sym (none_wanted below (h refl))
  below_cut below false h e = e

  -- what the other filters keep after one filter is what all of them keep before it
  pub wanted_after : (f : Forest Given) → PassesDown rule f
      → filter (is_left rules) (preorder (filtered (changed_by rule) (cut_by rule) f)) ≡ filter
      (is_left (rule ∷ rules)) (preorder f)
  wanted_after nothing h = refl
  wanted_after (lists path after) h = wanted_after after h
  wanted_after (item x below after) h =
      let left = preorder (cond (cut_by rule x) nothing (filtered (changed_by rule) (cut_by rule) below)) in
      let rest = preorder (filtered (changed_by rule) (cut_by rule) after) in
      let same : filter (is_left rules) (left ++ rest) ≡ filter (is_left (rule ∷ rules))
      (preorder below ++ preorder after) =
      filter-append (is_left rules) left rest
      ∙ ap (λ ys. ys ++ filter (is_left rules) rest)
      (below_cut below (cut_by rule x) (λ e. h.0 (cut_left x e)) (wanted_after below h.1))
      ∙ ap (λ ys. filter (is_left (rule ∷ rules)) (preorder below) ++ ys) (wanted_after after h.2)
      ∙ sym (filter-append (is_left (rule ∷ rules)) (preorder below) (preorder after)) in
      ap (λ ys. cond (is_left rules (changed_by rule x)) (changed_by rule x ∷ ys) ys) same
      ∙ pick x (filter (is_left (rule ∷ rules)) (preorder below ++ preorder after))

-- ---- a filter doesn't change what another one decides

module _ (rule other : Facts → Mark) where
  left_still : (x : Given) → LeavesOutWhole other x → LeavesOutWhole other (changed_by rule x)
  left_still (entry m f) h = h
  left_still (fault kind path depth) h = tt
  left_still no_memory h = tt

  was_left : (x : Given) → IsEntryLeftOut other (changed_by rule x) → IsEntryLeftOut other x
  was_left (entry m f) h = h
  was_left (fault kind path depth) h = h
  was_left no_memory h = h

  abbrev after_rule : Forest Given → Forest Given
  after_rule f = filtered (changed_by rule) (cut_by rule) f

  all_unless : (f : Forest Given) (b : Bool) → LeavesOutAll other f → LeavesOutAll other (cond b nothing f)
  all_unless f true h = tt
  all_unless f false h = h

  all_left_still : (f : Forest Given) → LeavesOutAll other f → LeavesOutAll other (after_rule f)
  all_left_still nothing h = tt
  all_left_still (lists path after) h = all_left_still after h
  all_left_still (item x below after) h = (
    left_still x h.0,
    all_unless (after_rule below) (cut_by rule x)
        (all_left_still below h.1),
    all_left_still after h.2,
  )

  passes_unless : (f : Forest Given) (b : Bool) → PassesDown other f → PassesDown other (cond b nothing f)
  passes_unless f true h = tt
  passes_unless f false h = h

  pub passes_still : (f : Forest Given) → PassesDown other f → PassesDown other (after_rule f)
  passes_still nothing h = tt
  passes_still (lists path after) h = passes_still after h
  passes_still (item x below after) h = (
    λ e. all_unless (after_rule below) (cut_by rule x) (all_left_still below (h.0 (was_left x e))),
    passes_unless (after_rule below) (cut_by rule x) (passes_still below h.1),
    passes_still after h.2,
  )

all_pass_still : (rule : Facts → Mark) (rules : List (Facts → Mark)) (f : Forest Given) → AllPassDown rules f
    → AllPassDown rules (filtered (changed_by rule) (cut_by rule) f)
all_pass_still rule [] f h = tt
all_pass_still rule (other ∷ rules) f h = (passes_still rule other f h.0, all_pass_still rule rules f h.1)

kept_left : (xs : List Given) → filter is_kept_entry xs ≡ filter (is_left []) xs
kept_left [] = refl
kept_left (x ∷ xs) =
    ap (λ b. cond b (x ∷ filter is_kept_entry xs) (filter is_kept_entry xs)) (same x)
    ∙ ap (λ ys. cond (is_left [] x) (x ∷ ys) ys) (kept_left xs) where
      same : (x : Given) → is_kept_entry x ≡ is_left [] x
      same (entry kept f) = refl
      same (entry alone f) = refl
      same (entry with_tree f) = refl
      same (fault kind path depth) = refl
      same no_memory = refl

stacked_wanted : (rules : List (Facts → Mark)) (f : Forest Given) → AllPassDown rules f
    → filter (is_left []) (preorder (stacked rules f)) ≡ filter (is_left rules) (preorder f)
stacked_wanted [] f h = refl
stacked_wanted (rule ∷ rules) f h = stacked_wanted rules (filtered (changed_by rule) (cut_by rule) f)
    (all_pass_still rule rules f h.1) ∙ wanted_after rule rules f h.0

-- the entries that are kept at last are those that each filter keeps, in order
pub stacked_entries : (rules : List (Facts → Mark)) (f : Forest Given) → AllPassDown rules f
    → filter is_kept_entry (preorder (stacked rules f)) ≡ filter (is_left rules) (preorder f)
stacked_entries rules f h = kept_left (preorder (stacked rules f)) ∙ stacked_wanted rules f h
