-- What is wanted of the small tree, by `src/*` without what `**/b*` matches and the lines `src/m*` and
-- `!src/main.rs` ignore.
use Rattle.std.proofs.Common.{◌≡◌, ◌∙◌, ◌++◌, ◌==◌, ◌&&◌, ◌||◌, not, ℕ, Bool, true, false, List, [], ◌∷◌}
use Rattle.std.proofs.Common.{codes, None, Some, ap, arith, filter, if◌then◌else◌, inl, inr, refl, subst, sym}
use Rattle.std.specs.{Str.chars, Prelude.{cond, map, nat_lt, ⊤}, List.AllZip}
use lib.Utf8.{encode}
use Rattle.wax.specs.{Exclusions.IsNotRule, GlobWalks.{Beginning, origin_from, request_of}}
use Rattle.wax.specs.{Headline.{Wanted, is_in, is_wanted, whole}, Ignoring.{IsReadAs, Line, written_lines}}
use Rattle.wax.specs.{Language.{Span, Tree, means_test}, Patterns.Spells, Queries.{Bounds, Depth, Prefix}}
use Rattle.wax.specs.Walks.{ArePlain, AreRulesOf, Candidate, DepthRange, Facts, File, FileType, Filter}
use Rattle.wax.specs.Walks.{Folder, Given, HasEmptyName, IsRuleOf, KeepsWanted, Mark, Origin}
use Rattle.wax.specs.Walks.{PrefixSplitsInto, Shown, Unbounded, a_folder, behavior_at, behavior_range, entry}
use Rattle.wax.specs.Walks.{gives, kept, lacks_memory, FeedsByRequest, GlobRequest, alone, changed_by, fault}
use Rattle.wax.specs.Walks.{is_beyond, is_kept, is_kept_entry, left_after, no_memory, not_ignored, not_meant}
use Rattle.wax.specs.Walks.{over_budget, preorder, request_feed, any_mark, cut_by, filter_mark, glob_mark}
use Rattle.wax.specs.Walks.{left_of, of_candidate, request_walk, wanted_entries, whole_along, with_tree}
use Rattle.wax.specs.Walks.{yielded}
use Rattle.wax_test_uses.proofs.Expressions.{in_src, main_rs, main_rs_spelled, with_b, with_b_spelled, with_m}
use Rattle.wax_test_uses.proofs.Expressions.{with_m_spelled}
use Rattle.wax_test_uses.proofs.Matched.{at_docs, at_src, at_start, at_x, b_yes, in_net, in_src_file, m_yes}
use Rattle.wax_test_uses.proofs.{Matched.{main_yes, not_b, not_m, not_main}, SourceTree.src_plain}
use Rattle.wax_test_uses.specs.Sources.{HasPaths, kept_path, source_items}

-- ---- where the walk of `src/*` begins

or_true : (b : Bool) → (b || true) ≡ true
or_true true = refl
or_true false = refl

-- two `/` stand side by side
abbrev has_double : List ℕ → Bool
has_double [] = false
has_double (c ∷ []) = false
has_double (c ∷ d ∷ s) = ((c == 47) && (d == 47)) || has_double (d ∷ s)

double_in : (x y : List ℕ) → has_double (x ++ 47 ∷ 47 ∷ y) ≡ true
double_in [] y = refl
double_in (c ∷ []) y = or_true ((c == 47) && true)
double_in (c ∷ d ∷ x) y = rw (double_in (d ∷ x) y) (or_true ((c == 47) && (d == 47)))

unbroken : (p : List ℕ) → has_double p ≡ false → HasEmptyName p → ⊥
unbroken p h e =
    let k : has_double p ≡ true = ap has_double e.2 ∙ double_in e.0 e.1 in
    let i : true ≡ false = sym k ∙ h in cc

pub src_prefix : Prefix in_src 2 (codes "src/")
src_prefix = inr (
  (λ h. (let e = h.0 in cc)),
  (
    Some (2, codes "src/"),
    inr (inr (
      codes "src",
      Some (1, codes "/"),
      refl,
      inr (inr (codes "/", None, refl, inr (inl (refl, (λ s h. h), refl)), refl)),
      refl,
    )),
    refl,
    refl,
  ),
)

pub src_names : PrefixSplitsInto (codes "src/") false (codes "src" ∷ [])
unfolding chars encode
src_names = record {
  text = codes "src/";
  encoded = (codes "src/", (refl, refl));
  characters = refl;
  unbroken = unbroken (codes "src/") refl;
  split = record { root = refl; parts = refl; whole = inr ((λ e. (cc)), refl) };
}

-- ---- filters

abbrev pub source_lines : List (Line Span)
source_lines = record { ignores = true; glob = with_m } ∷ record { ignores = false; glob = main_rs } ∷ []

abbrev pub source_filters : List (Filter Span)
source_filters = not_meant with_b ∷ not_ignored source_lines ∷ []

abbrev pub source_wanted : Wanted Span
source_wanted = record { rooted = false; glob = in_src; filters = source_filters }

-- ---- what is wanted

module _ (f : Facts) (s : List ℕ) (same : chars f.candidate ≡ s) where
  unwanted : means_test in_src false false s ≡ false → is_wanted source_wanted (entry kept f) ≡ false
  unwanted g = rw (same, g)

  decided : (b m r : Bool) → means_test in_src false false s ≡ true → means_test with_b false false s ≡ b
      → means_test with_m false false s ≡ m → means_test main_rs false false s ≡ r
      → is_wanted source_wanted (entry kept f)
      ≡ (not b && (not (if r then false else (if m then true else false)) && true))
  decided b m r g eb em er = rw (same, g, eb, em, er)

-- all depths
abbrev pub range : DepthRange
range = behavior_range (behavior_at Unbounded)

abbrev pub test : Given → Bool
test x = is_in range x && is_wanted source_wanted x

-- of each item, whether the test holds
abbrev Tests : (Given → Bool) → List Given → List Bool → Type 0
Tests p [] [] = ⊤
Tests p [] (b ∷ bs) = ⊥
Tests p (x ∷ xs) [] = ⊥
Tests p (x ∷ xs) (b ∷ bs) = (p x ≡ b) × Tests p xs bs

abbrev picked : List Given → List Bool → List Given
picked [] bs = []
picked (x ∷ xs) [] = []
picked (x ∷ xs) (b ∷ bs) = cond b (x ∷ picked xs bs) (picked xs bs)

filter_picks : (p : Given → Bool) (xs : List Given) (bs : List Bool) → Tests p xs bs
    → filter p xs ≡ picked xs bs
filter_picks p [] [] h = refl
filter_picks p [] (b ∷ bs) h = absurd h
filter_picks p (x ∷ xs) [] h = absurd h
filter_picks p (x ∷ xs) (b ∷ bs) h = rw (h.0, filter_picks p xs bs h.1)

-- an entry of the tree
abbrev pub at : List ℕ → ℕ → FileType → Facts
at path depth kind = record { path = path; root = []; candidate = path; depth = depth; kind = kind }

abbrev pub file_at : List ℕ → Given
file_at path = entry kept (at path 2 File)

abbrev pub folder_at : List ℕ → Given
folder_at path = entry kept (at path 2 Folder)

abbrev pub origin : Origin
origin = record { root = []; path = []; candidate = []; names = codes "src" ∷ [] }

pub sources_kept : wanted_entries source_wanted range origin (a_folder source_items)
    ≡ file_at (codes "src/a.rs") ∷ file_at (codes "src/main.rs") ∷ folder_at (codes "src/net") ∷ []
unfolding chars
sources_kept =
    filter_picks test (whole [] (a_folder source_items))
    (false ∷ false ∷ false ∷ false ∷ true ∷ false ∷ false ∷ true ∷ true ∷ false ∷ []) (
      unwanted (at [] 0 Folder) [] refl at_start,
      (
        unwanted (at (codes "docs") 1 Folder) (codes "docs") refl at_docs,
        (
          unwanted (at (codes "docs/x.md") 2 File) (codes "docs/x.md") refl at_x,
          (
            unwanted (at (codes "src") 1 Folder) (codes "src") refl at_src,
            (
              decided (at (codes "src/a.rs") 2 File) (codes "src/a.rs") refl false false false
                  (in_src_file (codes "a.rs") refl) (not_b (codes "src/a.rs") refl)
                  (not_m (codes "src/a.rs") refl)
                  (not_main (codes "src/a.rs") refl),
              (
                decided (at (codes "src/b.txt") 2 File) (codes "src/b.txt") refl true false false
                    (in_src_file (codes "b.txt") refl) b_yes (not_m (codes "src/b.txt") refl)
                    (not_main (codes "src/b.txt") refl),
                (
                  decided (at (codes "src/main.o") 2 File) (codes "src/main.o") refl false true false
                      (in_src_file (codes "main.o") refl) (not_b (codes "src/main.o") refl)
                      (m_yes (codes "ain.o") refl)
                      (not_main (codes "src/main.o") refl),
                  (
                    decided (at (codes "src/main.rs") 2 File) (codes "src/main.rs") refl false true true
                        (in_src_file (codes "main.rs") refl) (not_b (codes "src/main.rs") refl)
                        (m_yes (codes "ain.rs") refl) main_yes,
                    (
                      decided (at (codes "src/net") 2 Folder) (codes "src/net") refl false false false
                          (in_src_file (codes "net") refl) (not_b (codes "src/net") refl)
                          (not_m (codes "src/net") refl) (not_main (codes "src/net") refl),
                      (
                        unwanted (at (codes "src/net/tcp.rs") 3 File) (codes "src/net/tcp.rs") refl in_net,
                        tt,
                      ),
                    ),
                  ),
                ),
              ),
            ),
          ),
        ),
      ),
    )

-- ---- the filters

line_is : (x : Line Span) (b : Bool) (t : Tree Span) → x.ignores ≡ b → t ≡ x.glob
    → x ≡ record { ignores = b; glob = t }
line_is x b t e f = λ i. record { ignores = e i; glob = sym f i }

-- what is listed is read as these lines
pub lines_are : (lines : List (Line Span))
    → AllZip IsReadAs (written_lines (codes "src/m*\n!src/main.rs\n")) lines → lines ≡ source_lines
lines_are [] h = absurd h
lines_are (x ∷ []) h = absurd h.1
lines_are (x ∷ y ∷ []) h =
    let e = line_is x true with_m h.0.ignores (h.0.glob.only.1 with_m with_m_spelled) in
    let f = line_is y false main_rs h.1.0.ignores (h.1.0.glob.only.1 main_rs main_rs_spelled) in
    λ i. e i ∷ f i ∷ []
lines_are (x ∷ y ∷ z ∷ lines) h = absurd h.1.1

-- the rules of the two filters
pub rules_are : (not_rule ignore_rule : Candidate → Mark)
    → IsNotRule (Spells (chars (codes "**/b*"))) not_rule
    → (lines : List (Line Span)) → AllZip IsReadAs (written_lines (codes "src/m*\n!src/main.rs\n")) lines
    → IsRuleOf (not_ignored lines) ignore_rule → AreRulesOf source_filters (not_rule ∷ ignore_rule ∷ [])
rules_are not_rule ignore_rule says lines read h =
    let b : with_b ≡ says.0 = says.1.only.1 with_b with_b_spelled in
    let e : lines ≡ source_lines = lines_are lines read in (
      subst (λ t. IsRuleOf (not_meant t) not_rule) (sym b) says.2,
      (subst (λ l. IsRuleOf (not_ignored l) ignore_rule) e h, tt),
    )

-- ---- only entries come

-- no item is an error
abbrev pub OnlyEntries : List Given → Type 0
OnlyEntries [] = ⊤
OnlyEntries (entry m f ∷ xs) = OnlyEntries xs
OnlyEntries (fault kind path depth ∷ xs) = ⊥
OnlyEntries (no_memory ∷ xs) = ⊥

only_cond : (b : Bool) (xs ys : List Given) → OnlyEntries xs → OnlyEntries ys → OnlyEntries (cond b xs ys)
only_cond true xs ys h k = h
only_cond false xs ys h k = k

only_filter : (p : Given → Bool) (xs : List Given) → OnlyEntries xs → OnlyEntries (filter p xs)
only_filter p [] h = tt
only_filter p (entry m f ∷ xs) h =
    let r = only_filter p xs h in only_cond (p (entry m f)) (entry m f ∷ filter p xs) (filter p xs) r r
only_filter p (fault kind path depth ∷ xs) h = absurd h
only_filter p (no_memory ∷ xs) h = absurd h

-- in range, or an error of a folder above the greatest depth
abbrev is_given : DepthRange → Given → Bool
is_given depths (entry m f) = is_in depths (entry m f)
is_given depths (fault kind path depth) = nat_lt depth depths.max
is_given depths no_memory = false

only_yielded : (depths : DepthRange) (xs : List Given) → OnlyEntries xs → OnlyEntries (yielded depths xs)
only_yielded depths [] h = tt
only_yielded depths (entry m f ∷ xs) h = only_filter (is_given depths) (entry m f ∷ xs) h
only_yielded depths (fault kind path depth ∷ xs) h = absurd h
only_yielded depths (no_memory ∷ xs) h = absurd h

only_left : (rule : Facts → Mark) (before xs : List Given) → OnlyEntries xs
    → OnlyEntries (left_after (changed_by rule) (cut_by rule) before xs)
only_left rule before [] h = tt
only_left rule before (entry m f ∷ xs) h =
    let rest = left_after (changed_by rule) (cut_by rule) (before ++ entry m f ∷ []) xs in
    let r = only_left rule (before ++ entry m f ∷ []) xs h in
    only_cond _ rest (changed_by rule (entry m f) ∷ rest) r r
only_left rule before (fault kind path depth ∷ xs) h = absurd h
only_left rule before (no_memory ∷ xs) h = absurd h

only_feed : (b : Bool) (rule : Facts → Mark) (xs : List Given) → OnlyEntries xs
    → OnlyEntries (if b then [] else left_of rule xs)
only_feed true rule xs h = tt
only_feed false rule xs h = only_left rule [] xs h

-- of entries alone, those that are kept
kept_alone : (xs : List Given) → OnlyEntries xs → filter is_kept_entry (filter is_kept xs) ≡ filter is_kept xs
kept_alone [] h = refl
kept_alone (entry kept f ∷ xs) h = ap (λ v. entry kept f ∷ v) (kept_alone xs h)
kept_alone (entry alone f ∷ xs) h = kept_alone xs h
kept_alone (entry with_tree f ∷ xs) h = kept_alone xs h
kept_alone (fault kind path depth ∷ xs) h = absurd h
kept_alone (no_memory ∷ xs) h = absurd h

-- ---- the walk

abbrev pub source_beginning : Beginning in_src
source_beginning = record {
  taken = 2;
  prefix = codes "src/";
  prefix_is = src_prefix;
  rooted = false;
  names = codes "src" ∷ [];
  names_are = src_names;
}

module _ (depth : Bounds) where
  -- what the walk is to yield
  abbrev pub request : GlobRequest
  request = request_of [] range depth source_beginning source_filters

  pub feed_entries : OnlyEntries (request_feed request (a_folder source_items))
  feed_entries =
      only_feed (is_beyond request)
      (any_mark (of_candidate (glob_mark false in_src) ∷ of_candidate (filter_mark (not_meant with_b))
      ∷ of_candidate (filter_mark (not_ignored source_lines)) ∷ []))
      (yielded request.walked (whole_along (record { path = []; root = []; candidate = []; depth = 0 })
      (a_folder source_items) (codes "src" ∷ [])))
      (only_yielded request.walked (whole_along (record { path = []; root = []; candidate = []; depth = 0 })
      (a_folder source_items) (codes "src" ∷ [])) tt)

  pub only_entries : FeedsByRequest → OnlyEntries (preorder (request_walk request (a_folder source_items)))
  only_entries feeds = subst OnlyEntries (sym (feeds request (a_folder source_items))) feed_entries

  only_kept : FeedsByRequest → (items : List Given)
      → items ≡ filter is_kept (preorder (request_walk request (a_folder source_items)))
      → filter is_kept_entry items ≡ items
  only_kept feeds items e =
      subst (λ v. filter is_kept_entry v ≡ v) (sym e)
      (kept_alone (preorder (request_walk request (a_folder source_items))) (only_entries feeds))

abbrev pub kept_paths : List (List ℕ)
kept_paths = codes "src/a.rs" ∷ codes "src/main.rs" ∷ codes "src/net" ∷ []

paths_are : (items : List Given) → items
    ≡ file_at (codes "src/a.rs") ∷ file_at (codes "src/main.rs") ∷ folder_at (codes "src/net") ∷ []
    → map kept_path items ≡ map Some kept_paths
unfolding chars
paths_are items e = ap (map kept_path) e

-- what is known of a walk of the glob from the start
module _ (rules : List (Candidate → Mark)) (shows : List ℕ → Shown → Type 0)
    (tells told : List (List ℕ) → Type 0) (items : List Given) where
  abbrev pub KeepsOf : Tree Span → DepthRange → Type 0
  KeepsOf t asked = (depth : Bounds) × Depth t depth × ((b : Beginning t) (filters : List (Filter Span))
      (s : Shown) (listed : List (List ℕ)) → AreRulesOf filters rules → ArePlain b.names
      → shows (origin_from [] b.rooted b.names).path s → tells listed
      → KeepsWanted told (request_of [] asked depth b filters) s listed items)

  module _ (h : KeepsOf in_src range) (are : AreRulesOf source_filters rules)
      (shown : shows [] (a_folder source_items))
      (none_told : tells []) (feeds : FeedsByRequest) where
    kept_so : KeepsWanted told (request h.0) (a_folder source_items) [] items → HasPaths kept_paths items
    kept_so (gives e f l m) = inr (paths_are items (sym (only_kept h.0 feeds items e) ∙ (f ∙ sources_kept)))
    kept_so (lacks_memory c) = inl (c.0, c.2)
    kept_so (over_budget path n l c) = absurd (omega (arith, l))

    entries_kept : HasPaths kept_paths items
    entries_kept =
        kept_so
        (h.2 source_beginning source_filters (a_folder source_items) [] are (src_plain, tt) shown none_told)

-- by whatever tree the glob has, which is the one that its expression spells
module _ {R : Type 0} (rule : R → Candidate → Mark) (filters : List R) (shows : List ℕ → Shown → Type 0)
    (tells told : List (List ℕ) → Type 0) (items : List Given) (t : Tree Span) (asked : DepthRange)
    (kept_is : KeepsOf (map rule filters) shows tells told items t asked) where
  pub sources_listed : in_src ≡ t → range ≡ asked → (x y : R) → filters ≡ x ∷ y ∷ []
      → IsNotRule (Spells (chars (codes "**/b*"))) (rule x) → (lines : List (Line Span))
      → AllZip IsReadAs (written_lines (codes "src/m*\n!src/main.rs\n")) lines
      → IsRuleOf (not_ignored lines) (rule y) → shows [] (a_folder source_items) → tells [] → FeedsByRequest
      → HasPaths kept_paths items
  sources_listed is_tree is_range x y all says lines read h shown none_told feeds =
      entries_kept (map rule filters) shows tells told items
      (subst (λ v. KeepsOf (map rule filters) shows tells told items v range) (sym is_tree)
      (subst (λ r. KeepsOf (map rule filters) shows tells told items t r) (sym is_range) kept_is))
      (subst (λ v. AreRulesOf source_filters (map rule v)) (sym all)
      (rules_are (rule x) (rule y) says lines read h)) shown none_told feeds
