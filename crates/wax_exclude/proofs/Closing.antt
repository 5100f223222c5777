-- What the least walk of a glob keeps: below a folder that isn't opened nothing is wanted.
use Rattle.std.proofs.Common.{◌≡◌, ℕ, ◌+◌, ◌<◌, ◌≤◌, Bool, true, false, ◌&&◌, not, cond, if◌then◌else◌}
use Rattle.std.proofs.Common.{Option, List, [], ◌∷◌, ◌++◌, length, map, refl, sym, ap, subst, ◌∙◌, arith}
use Rattle.std.proofs.{Common.{append_assoc, length-append, chars}, lemmas.Bool.ltb-true}
use Rattle.std.proofs.lemmas.List.{map-append}
use Rattle.std.specs.{Prelude.{filter, nat_lt}, Str.all_scalars}
use Rattle.wax_directory.specs.declared.directory.FileType.{FileType}
use Rattle.wax_directory.specs.declared.directory.FileType.TheVariants.{Folder}
use Rattle.wax_directory.specs.Shown.{Items, end, leaf, folder, sealed, misnamed, unread, not_text, Shown}
use Rattle.wax_directory.specs.Shown.{a_leaf, a_folder, a_sealed, missing, failing, leaf_kind}
use Rattle.wax_token.specs.{Decided.{means_test, means_tested}, Meaning.Means, Syntax.Tree}
use Rattle.wax_tree.specs.Plain.{WalkScope, Location, one_deeper, plain_entry, items_forest, plain_at}
use Rattle.wax_tree.specs.Programs.{limit_below}
use Rattle.wax_walk.specs.{Candidates.of_candidate, declared.error.FaultKind.FaultKind}
use Rattle.wax_walk.specs.declared.error.FaultKind.TheVariants.{Listing}
use Rattle.wax_walk.specs.Forest.{Forest, nothing, item, lists, preorder, followed_by}
use Rattle.wax_walk.specs.Given.{Facts, Mark, kept, alone, with_tree, Given, entry, fault, no_memory}
use Rattle.wax_walk.specs.{View.is_folder_kind, Pruned.{is_closed, pruned}}
use Rattle.wax_exclude.proofs.Filters.{filters_keep}
use Rattle.wax_exclude.proofs.Names.{at_join, chars_joined, length_names, names_chars, names_scalars}
use Rattle.wax_exclude.proofs.LimitsBelow.{allows_more}
use Rattle.wax_exclude.proofs.Pruning.{NoneCut, all_pass_left, none_if, none_unless, same_left}
use Rattle.wax_exclude.proofs.{Reaching.{never, none_of}, Stacking.stacked_entries}
use Rattle.wax_exclude.proofs.Walked.{agree_inside, pass_filters, same_filter}
use Rattle.wax_query.specs.{Below.AreNames, Ranges.AtMost}
use Rattle.wax_exclude.specs.{Candidates.text_at, inner.Descents.{At, child_location}}
use Rattle.wax_exclude.specs.inner.Stacks.{keeps, all_keep, is_left, IsEntryLeftOut, LeavesOutAll, PassesDown}
use Rattle.wax_exclude.specs.Premises.{ArePlainItems, IsPlainShown}
use Rattle.wax_exclude.specs.Pruned.{MeansLonger, TestsBelow, opens_where, least_mark, least_rules}
use Rattle.wax_exclude.specs.Pruned.{is_wanted_from}
use Rattle.wax_exclude.specs.Wanted.{Wanted, none_excludes, is_kept_entry, stacked, filter_rules}

-- ---- the rule of a least walk

pub never_whole : (b : Bool) → (if b then kept else alone) ≡ with_tree → ⊥
never_whole true e = cc
never_whole false e = cc

keeps_it : (b : Bool) → keeps (if b then kept else alone) ≡ b
keeps_it true = refl
keeps_it false = refl

and_false : (b : Bool) → b && false ≡ false
and_false true = refl
and_false false = refl

and_assoc : (a b c : Bool) → (a && b) && c ≡ a && (b && c)
and_assoc true b c = refl
and_assoc false b c = refl

shut : (g k : Bool) → not g && k ≡ true → g ≡ true → ⊥
shut true k e f = cc
shut false k e f = cc

pub later_names : (names others : List (List ℕ)) → AreNames (names ++ others) → AreNames others
later_names [] others h = h
later_names (n ∷ names) others h = later_names names others h.2

module _ {A : Type 0} (t : Tree A) (least : ℕ) where
  abbrev rule : Facts → Mark
  rule = of_candidate (least_mark least t)

  leaves_none : (x : Given) (f : Forest Given) → IsEntryLeftOut rule x → LeavesOutAll rule f
  leaves_none (entry m f) g e =
      absurd (never_whole (not (nat_lt f.depth least) && means_test t false false (chars f.candidate)) e)
  leaves_none (fault kind path depth) g e = absurd e
  leaves_none no_memory g e = absurd e

  -- it excludes nothing with everything below it
  pub least_passes : (f : Forest Given) → PassesDown rule f
  least_passes nothing = tt
  least_passes (lists path after) = least_passes after
  least_passes (item x below after) =
      ((λ e. leaves_none x below e), least_passes below, least_passes after)

module _ {A : Type 0} (w : Wanted A) (least : ℕ) where
  -- what it and the filters leave is what is wanted, from the least depth on
  pub left_wanted : (x : Given) → is_left (least_rules least w) x ≡ is_wanted_from least w x
  left_wanted (entry kept f) =
      let deep = not (nat_lt f.depth least) in
      let meant = means_test w.glob false false (chars f.candidate) in
      ap (λ b. b && all_keep (filter_rules w.filters) f) (keeps_it (deep && meant))
      ∙ ap (λ b. (deep && meant) && b) (filters_keep w.filters f)
      ∙ and_assoc deep meant (none_excludes w.filters (chars f.candidate))
  left_wanted (entry alone f) = sym (and_false (not (nat_lt f.depth least)))
  left_wanted (entry with_tree f) = sym (and_false (not (nat_lt f.depth least)))
  left_wanted (fault kind path depth) = refl
  left_wanted no_memory = refl

-- ---- below closed folders

module _ {A : Type 0} (w : Wanted A) (goes : Option ℕ → List ℕ → Bool)
    (tested : TestsBelow goes w.rooted w.glob) (scope : WalkScope) where
  abbrev cut : Given → Bool
  cut = is_closed (opens_where goes scope.max)

  -- below these names something is meant down to the greatest depth
  abbrev MeansDeeper : List (List ℕ) → Type 0
  MeansDeeper names = MeansLonger w.rooted w.glob (limit_below scope.max (length names)) (map chars names)

  -- below a folder that isn't opened nothing is meant
  pub none_meant : (at : Location) (kind : FileType) (names : List (List ℕ)) → At w.rooted at names
      → cut (plain_entry at kind) ≡ true → ¬ (MeansDeeper names)
  none_meant at kind names a e m =
      let most = limit_below scope.max (length names) in
      let text : chars at.candidate ≡ text_at w.rooted (map chars names) =
      ap chars a.candidate_is ∙ chars_joined w.rooted names a.are_plain in
      shut (goes (limit_below scope.max at.depth) (chars at.candidate)) (is_folder_kind kind) e
      ((λ i. goes (limit_below scope.max (a.depth_is i)) (text i))
      ∙ (tested most (map chars names) (names_chars names a.are_plain)).1 m)

  -- what only entries have that the glob means
  module _ (p : Given → Bool)
      (no_faults : (kind : FaultKind) (path : List ℕ) (depth : ℕ) → p (fault kind path depth) ≡ false)
      (unmeant : (at : Location) (kind : FileType) (names : List (List ℕ)) → At w.rooted at names
      → ¬ (Means w.glob false false (text_at w.rooted (map chars names)))
      → p (plain_entry at kind) ≡ false) where
    abbrev in_folder : Location → Items → Forest Given
    in_folder at l = items_forest scope (one_deeper at) l

    abbrev of : Forest Given → List Given
    of f = filter p (preorder f)

    abbrev Free : Forest Given → Type 0
    Free f = NoneCut cut p f

    abbrev low : Location → Bool
    low at = nat_lt at.depth scope.min

    abbrev high : Location → Bool
    high at = nat_lt at.depth scope.max

    -- these names are longer
    abbrev Longer : List (List ℕ) → List (List ℕ) → Type 0
    Longer names ns = (y : List ℕ) × (more : List (List ℕ)) × (ns ≡ names ++ y ∷ more)

    -- and no more than the greatest depth
    abbrev Deeper : List (List ℕ) → List (List ℕ) → Type 0
    Deeper names ns = Longer names ns × (length ns ≤ scope.max)

    allowed : (names more ns : List (List ℕ)) → ns ≡ names ++ more → length ns ≤ scope.max
        → AtMost (length (map chars more)) (limit_below scope.max (length names))
    allowed names more ns e fits =
        let n : length ns ≡ length names + length more = ap length e ∙ length-append names more in
        allows_more scope.max (length names) (length (map chars more))
        (omega (arith, n, fits, length_names more))

    means_more : (names ns : List (List ℕ)) → Deeper names ns → AreNames (map chars ns)
        → all_scalars (text_at w.rooted (map chars ns)) ≡ true
        → Means w.glob false false (text_at w.rooted (map chars ns)) → MeansDeeper names
    means_more names ns ((y, more, e), fits) n all m =
        let i : map chars ns ≡ map chars names ++ map chars (y ∷ more) =
        ap (map chars) e ∙ map-append chars names (y ∷ more) in (
          map chars (y ∷ more),
          (λ j. cc),
          later_names (map chars names) (map chars (y ∷ more)) (subst AreNames i n),
          allowed names (y ∷ more) ns e fits,
          subst (λ v. all_scalars (text_at w.rooted v) ≡ true) i all,
          subst (λ v. Means w.glob false false (text_at w.rooted v)) i m,
        )

    one_deeper_fits : (names : List (List ℕ)) (x : List ℕ) → length names < scope.max
        → length (names ++ x ∷ []) ≤ scope.max
    one_deeper_fits names x less = let n = length-append names (x ∷ []) in omega (arith, less, n)

    -- in a folder below whose names nothing is meant nothing has it
    none_in : (at : Location) (names : List (List ℕ)) (l : Items) → At w.rooted at names → ArePlainItems l
        → high at ≡ true → ¬ (MeansDeeper names) → of (in_folder at l) ≡ []
    none_in at names l a t e n =
        let less : length names < scope.max =
        subst (λ d. d < scope.max) a.depth_is (ltb-true at.depth scope.max e) in
        same_filter p never (in_folder at l)
        (agree_inside p never w.rooted scope (Deeper names)
        (λ ns x deep ((y, more, i), fits). (
          (y, more ++ x ∷ [], ap (λ v. v ++ x ∷ []) i ∙ append_assoc names (y ∷ more) (x ∷ [])),
          one_deeper_fits ns x deep,
        ))
        (λ c k ns h g. unmeant c k ns h (λ m. n
        (means_more names ns g (names_chars ns h.are_plain) (names_scalars w.rooted ns h.are_plain) m)))
        no_faults at names l a t (λ x. ((x, [], refl), one_deeper_fits names x less)))
        ∙ none_of (preorder (in_folder at l))

    of_listed : (b : Bool) (path : List ℕ) (f : Forest Given) → (b ≡ true → of f ≡ [])
        → of (cond b (lists path f) nothing) ≡ []
    of_listed true path f e = e refl
    of_listed false path f e = refl

    of_one : (kind : FaultKind) (path : List ℕ) (depth : ℕ)
        → of (item (fault kind path depth) nothing nothing) ≡ []
    of_one kind path depth = ap (λ b. cond b (fault kind path depth ∷ []) []) (no_faults kind path depth)

    free_leaf : (at : Location) (kind : FileType) (rest : Forest Given) → Free rest
        → Free (cond (low at) (followed_by nothing rest) (item (plain_entry at kind) nothing rest))
    free_leaf at kind rest h = none_unless cut p (low at) (plain_entry at kind) nothing rest (λ e. refl) tt h

    free_folder : (at : Location) (names : List (List ℕ)) (inner rest : Forest Given) → At w.rooted at names
        → (high at ≡ true → ¬ (MeansDeeper names) → of inner ≡ []) → Free inner → Free rest
        → Free (cond (low at) (followed_by (cond (high at) (lists at.path inner) nothing) rest)
        (item (plain_entry at Folder) (cond (high at) (lists at.path inner) nothing) rest))
    free_folder at names inner rest a n h k =
        none_unless cut p (low at) (plain_entry at Folder) (cond (high at) (lists at.path inner) nothing) rest
        (λ e. of_listed (high at) at.path inner (λ b. n b (none_meant at Folder names a e)))
        (none_if cut p (high at) (lists at.path inner) h) k

    free_inside : (at : Location) (names : List (List ℕ)) (l : Items) → At w.rooted at names → ArePlainItems l
        → Free (in_folder at l)
    free_inside at names end a t = tt
    free_inside at names (leaf x link rest) a t =
        free_leaf (child_location at x) (leaf_kind link) (in_folder at rest) (free_inside at names rest a t.1)
    free_inside at names (folder x inner rest) a t =
        let h = at_join w.rooted at names x a t.0 in
        let c = child_location at x in
        free_folder c (names ++ x ∷ []) (in_folder c inner) (in_folder at rest) h
        (none_in c (names ++ x ∷ []) inner h t.1) (free_inside c (names ++ x ∷ []) inner h t.1)
        (free_inside at names rest a t.2)
    free_inside at names (sealed x rest) a t =
        let c = child_location at x in
        free_folder c (names ++ x ∷ [])
        (item (fault Listing c.path c.depth) nothing nothing) (in_folder at rest)
        (at_join w.rooted at names x a t.0) (λ b n. of_one Listing c.path c.depth) ((λ e. refl), tt, tt)
        (free_inside at names rest a t.1)
    free_inside at names (misnamed x kind rest) a t = ((λ e. refl), tt, free_inside at names rest a t)
    free_inside at names (unread rest) a t = ((λ e. refl), tt, free_inside at names rest a t)
    free_inside at names (not_text rest) a t = ((λ e. refl), tt, free_inside at names rest a t)

    pub free_at : (at : Location) (names : List (List ℕ)) (s : Shown) → At w.rooted at names → IsPlainShown s
        → Free (plain_at scope at s nothing)
    free_at at names (a_leaf link) a t = free_leaf at (leaf_kind link) nothing tt
    free_at at names (a_folder l) a t =
        free_folder at names (in_folder at l) nothing a (none_in at names l a t)
        (free_inside at names l a t) tt
    free_at at names a_sealed a t =
        free_folder at names (item (fault Listing at.path at.depth) nothing nothing) nothing a
        (λ b n. of_one Listing at.path at.depth) ((λ e. refl), tt, tt) tt
    free_at at names missing a t = ((λ e. refl), tt, tt)
    free_at at names failing a t = ((λ e. refl), tt, tt)

  -- ---- what is kept

  untrue : (b : Bool) → ¬ (b ≡ true) → b ≡ false
  untrue true n = absurd (n refl)
  untrue false n = refl

  -- an entry that the glob doesn't mean isn't wanted
  pub unwanted_from : (least : ℕ) (at : Location) (kind : FileType) (names : List (List ℕ))
      → At w.rooted at names → ¬ (Means w.glob false false (text_at w.rooted (map chars names)))
      → is_wanted_from least w (plain_entry at kind) ≡ false
  unwanted_from least at kind names a n =
      let s = chars at.candidate in
      let deep = not (nat_lt at.depth least) in
      ap (λ b. deep && (b && none_excludes w.filters s))
      (untrue (means_test w.glob false false s) (λ m. n (subst (λ v. Means w.glob false false v)
      (ap chars a.candidate_is ∙ chars_joined w.rooted names a.are_plain)
      ((means_tested w.glob false false s).0 m))))
      ∙ and_false deep

  -- the least walk keeps exactly what is wanted, in order
  pub least_wanted : (least : ℕ) (at : Location) (names : List (List ℕ)) (s : Shown)
      → At w.rooted at names → IsPlainShown s
      → filter is_kept_entry (preorder
      (stacked (least_rules least w) (pruned (opens_where goes scope.max) (plain_at scope at s nothing))))
      ≡ filter (is_wanted_from least w) (preorder (plain_at scope at s nothing))
  least_wanted least at names s a t =
      let f = plain_at scope at s nothing in
      let same : is_left (least_rules least w) ≡ is_wanted_from least w = λ i x. left_wanted w least x i in
      stacked_entries (least_rules least w) (pruned (opens_where goes scope.max) f)
      (all_pass_left cut (least_rules least w) f
      (least_passes w.glob least f, pass_filters w scope at names s a t w.filters))
      ∙ ap (λ p. filter p (preorder (pruned (opens_where goes scope.max) f))) same
      ∙ same_left cut (is_wanted_from least w) f
      (free_at (is_wanted_from least w) (λ k p d. refl) (unwanted_from least) at names s a t)
