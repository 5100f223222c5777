-- What is to come of a glob's walk.
use Rattle.std.proofs.Common.{◌≡◌, ◌∙◌, ◌≤◌, ◌<◌, ◌+◌, ◌&&◌, ℕ, Bool, true, false, cond, if◌then◌else◌, List}
use Rattle.std.proofs.Common.{[], ◌∷◌, length, refl, sym, subst, ap, inl, inr, arith}
use Rattle.wax_exclude.specs.GlobRequests.{ComesWanted, GlobRequest, walk_for}
use Rattle.wax_exclude.specs.{RuledWalks.{WalkTakes, lacking}, Prefix.HasEmptyName, Wanted.{Filter, stacked}}
use Rattle.wax_exclude.specs.{Premises.{CanWalk, IsUnmeant}, Walked.{glob_walk, origin_walk}}
use Rattle.wax_exclude.specs.{Leading.{component_test, lead_test, leading_of}, Marks.{glob_mark, led_mark}}
use Rattle.wax_exclude.specs.Pruned.{Pruning, by_components, opening_by, rules_by}
use Rattle.wax_exclude.proofs.{BeginsLeast.comes_so as comes_in_range, SplitPrefixes.same_split}
use Rattle.wax_exclude.proofs.{StackingRequests.any_alone, Telling.ruled_takes, Origins.names_are}
use Rattle.wax_tree.specs.Programs.{leading_mark, leads, means_mark}
use Rattle.wax_tree.specs.Begins.{BeginsAt, FailsFrom, FailsNowhere, HasEnded, LacksMemory}
use Rattle.wax_tree.specs.{declared.steps.DepthRange.DepthRange, Plain.count_shown, Prefix.ArePlain}
use Rattle.wax_components.specs.Depth.{Depth}
use Rattle.wax_directory.specs.{Law.Law, Shown.Shown}
use Rattle.wax_facts.specs.Prefix.{Prefix}
use Rattle.wax_query.specs.Ranges.{Bounds}
use Rattle.wax_walk.specs.{Ruled.ruled_view, Course.Course, View.{IsSeenAs, MayTake, WalkView, is_above}}
use Rattle.wax_walk.specs.Candidates.{Candidate, candidate_of, of_candidate}
use Rattle.wax_walk.specs.Forest.{Forest, nothing, item, lists, filtered, filtered_pending, pending}
use Rattle.wax_walk.specs.Given.{Facts, Given, Mark, alone, changed_by, combined_mark, cut_by, entry, fault}
use Rattle.wax_walk.specs.{Given.{is_cut, kept, no_memory, with_tree}, Pruned.opened_forest}
use Rattle.wax_walk.proofs.Following.{lacks_ruled, take_ruled}
use Rattle.wax_token.specs.{Decided.means_test, Reads.Span, Syntax.Tree}
use Rattle.wax.specs.GlobView.{GlobView}
use Rattle.wax.specs.GlobWalks.{Beginning, BeginsGlob, IsPlan, LeadsNowhere, has_empty_name, is_too_deep}
use Rattle.wax.specs.GlobWalks.{request_by, request_of, wants, origin_from, within}

-- ---- the programs say what the tree says

leads_so : (cs : List (List (Tree Span))) (names : List (List ℕ))
    → leads component_test cs names ≡ lead_test cs names
leads_so [] names = refl
leads_so (c ∷ cs) [] = refl
leads_so (c ∷ cs) (n ∷ names) = ap (λ b. component_test c n && b) (leads_so cs names)

abbrev pub decides : GlobView → List ℕ → Bool
decides g s = means_test g.tree false false s

pub says_glob : (g : GlobView) (rooted : Bool) (cs : List (List (Tree Span))) → cs ≡ leading_of rooted g.tree
    → leading_mark component_test cs decides g ≡ glob_mark rooted g.tree
says_glob g rooted cs e = λ i c.
    if (ap (λ l. leads component_test l c.names) e ∙ leads_so (leading_of rooted g.tree) c.names) i
    then means_mark decides g c else with_tree

-- ---- what a glob's walk leaves isn't changed where what isn't meant is left out again

module _ (g : GlobView) (rooted : Bool) where
  abbrev first_rule : Facts → Mark
  first_rule = of_candidate (glob_mark rooted g.tree)

  abbrev again : Facts → Mark
  again = of_candidate (leading_mark (component_test {A = Span}) [] decides g)

  combined_again : (m : Mark) (is_led is_matched : Bool) →
      combined_mark (combined_mark m (led_mark is_led is_matched)) (if is_matched then kept else alone)
      ≡ combined_mark m (led_mark is_led is_matched)
  combined_again kept true true = refl
  combined_again kept true false = refl
  combined_again kept false true = refl
  combined_again kept false false = refl
  combined_again alone true true = refl
  combined_again alone true false = refl
  combined_again alone false true = refl
  combined_again alone false false = refl
  combined_again with_tree is_led is_matched = refl

  none_cut : (m : Mark) (f : Facts) (is_matched : Bool)
      → is_cut (entry m f) (if is_matched then kept else alone) ≡ false
  none_cut kept f true = refl
  none_cut kept f false = refl
  none_cut alone f true = refl
  none_cut alone f false = refl
  none_cut with_tree f true = refl
  none_cut with_tree f false = refl

  abbrev meant : Facts → Bool
  meant f = means_test g.tree false false (candidate_of f).text

  abbrev led : Facts → Bool
  led f = lead_test (leading_of rooted g.tree) (candidate_of f).names

  same_given : (x : Given) → changed_by again (changed_by first_rule x) ≡ changed_by first_rule x
  same_given (entry m f) = ap (λ n. entry n f) (combined_again m (led f) (meant f))
  same_given (fault kind path depth) = refl
  same_given no_memory = refl

  uncut_again : (x : Given) → cut_by again (changed_by first_rule x) ≡ false
  uncut_again (entry m f) = none_cut (combined_mark m (led_mark (led f) (meant f))) f (meant f)
  uncut_again (fault kind path depth) = refl
  uncut_again no_memory = refl

  abbrev first_of : Forest Given → Forest Given
  first_of f = filtered (changed_by first_rule) (cut_by first_rule) f

  abbrev again_of : Forest Given → Forest Given
  again_of f = filtered (changed_by again) (cut_by again) f

  same_left : (below : Forest Given) → again_of (first_of below) ≡ first_of below → (b : Bool)
      → again_of (cond b nothing (first_of below)) ≡ cond b nothing (first_of below)
  same_left below h true = refl
  same_left below h false = h

  same_below : (x : Given) (below : Forest Given) → again_of (first_of below) ≡ first_of below →
      cond (cut_by again (changed_by first_rule x)) nothing
      (again_of (cond (cut_by first_rule x) nothing (first_of below)))
      ≡ cond (cut_by first_rule x) nothing (first_of below)
  same_below x below h =
      ap (λ b. cond b nothing (again_of (cond (cut_by first_rule x) nothing (first_of below))))
      (uncut_again x) ∙ same_left below h (cut_by first_rule x)

  pub same_forest : (f : Forest Given) → again_of (first_of f) ≡ first_of f
  same_forest nothing = refl
  same_forest (lists path after) = ap (lists path) (same_forest after)
  same_forest (item x below after) =
      λ i. item (same_given x i) (same_below x below (same_forest below) i) (same_forest after i)

-- ---- what is wanted comes

-- where that comes which is shown from the prefix on, and nothing where it is too long
module _ {D C : Type 0} {t : Tree Span} (law : Law D C) (d : D) (start : List ℕ) (asked : DepthRange)
    (depth : Bounds) (view : WalkView D) (b : Beginning t) (pruning : Pruning) where
  abbrev request : GlobRequest
  request = request_by pruning start asked depth b []

  abbrev requested : Shown → Forest Given
  requested s = stacked (rules_by pruning asked.min (wants t b []))
      (opened_forest (opening_by pruning t request.walked.max) (origin_walk request.walked request.origin s))

  abbrev pub ComesShown : Type 0
  ComesShown = (s : Shown) (listed : List (List ℕ)) → law.shows d request.origin.path s → law.tells d listed
      → length b.names ≤ request.walked.max →
      view.to_come (pending nothing (requested s) listed (count_shown s))

  abbrev pub ComesBeyond : Type 0
  ComesBeyond = (s : Shown) (listed : List (List ℕ)) → law.shows d request.origin.path s → law.tells d listed
      → request.walked.max < length b.names → view.to_come (pending nothing nothing listed 0)

  pub comes_so : ComesShown → ComesBeyond → ((c : Course) → MayTake view c → WalkTakes (walk_for request) c)
      → view.listings_left ≡ asked.budget + 1 → ComesWanted law d request view
  comes_so shown beyond =
      let same : request.origin.names ≡ b.names = sym (names_are start b.rooted b.names) in
      comes_in_range law d (walk_for request) view
      (λ s listed k told fits. shown s listed k told (subst (λ ns. length ns ≤ request.walked.max) same fits))
      (λ s listed k told less.
      beyond s listed k told (subst (λ ns. request.walked.max < length ns) same less))

-- ---- where errors come

module _ {D : Type 0} (inner : WalkView D) (rule : Candidate → Mark) (least : ℕ) (start : List ℕ)
    (way : List (List ℕ)) where
  fails_seen : {view : WalkView D} → FailsFrom least start way inner
      → IsSeenAs (ruled_view inner rule false) view → FailsFrom least start way view
  fails_seen h seen = record {
    at = λ path depth i. h.at path depth (seen.may_fail path depth i);
    below = λ path depth i. h.below path depth (seen.may_fail_below path depth i).1;
  }

  fails_nowhere : {view : WalkView D} → FailsNowhere inner → IsSeenAs (ruled_view inner rule false) view
      → FailsFrom least start way view
  fails_nowhere h seen = record {
    at = λ path depth i. absurd (h.at path depth (seen.may_fail path depth i));
    below = λ path depth i. h.below path depth (seen.may_fail_below path depth i).1;
  }

-- ---- what is to come

module _ {D C : Type 0} (g : GlobView) (law : Law D C) (d : D) (start : List ℕ) (asked : DepthRange)
    (depth : Bounds) (depth_is : Depth g.tree depth)
    (can : (b : Beginning g.tree) (filters : List (Filter Span)) → ArePlain b.names
    → CanWalk (wants g.tree b filters) asked (within asked depth) (origin_from start b.rooted b.names))
    (none_match : (taken : ℕ) (prefix : List ℕ) → Prefix g.tree taken prefix → HasEmptyName prefix
    → (rooted : Bool) → IsUnmeant rooted g.tree)
    (view : WalkView D) where
  abbrev walked : DepthRange
  walked = within asked depth

  module _ (is : (taken : ℕ) × (prefix : List ℕ) × Prefix g.tree taken prefix) (inner : WalkView D)
      (range : DepthRange) (same_range : range ≡ within asked depth) (rooted : Bool) (names : List (List ℕ))
      (cs : List (List (Tree Span)))
      (plan : (taken : ℕ) (prefix : List ℕ) → Prefix g.tree taken prefix
      → IsPlan g.tree prefix rooted names cs)
      (b : BeginsAt law d (origin_from start rooted names) range inner)
      (seen : IsSeenAs
      (ruled_view inner (leading_mark (component_test {A = Span}) cs decides g) false) view) where
    planned : (a : Beginning g.tree) → IsPlan g.tree a.prefix rooted names cs
    planned a = plan a.taken a.prefix a.prefix_is

    same_beginning : (a : Beginning g.tree) → (rooted ≡ a.rooted) × (names ≡ a.names)
    same_beginning a = same_split a.prefix rooted a.rooted names a.names (planned a).0 a.names_are

    begins_so : (a : Beginning g.tree) → BeginsAt law d (origin_from start a.rooted a.names) walked inner
    begins_so a =
        let same = same_beginning a in
        subst (λ r. BeginsAt law d (origin_from start a.rooted a.names) r inner) same_range
        (subst (λ r. BeginsAt law d (origin_from start r a.names) range inner) same.0
        (subst (λ n. BeginsAt law d (origin_from start rooted n) range inner) same.1 b))

    same_rule : (a : Beginning g.tree)
        → glob_mark a.rooted g.tree ≡ leading_mark (component_test {A = Span}) cs decides g
    same_rule a =
        sym (says_glob g rooted cs (planned a).1 ∙ ap (λ r. glob_mark r g.tree) (same_beginning a).0)

    same_names : (a : Beginning g.tree) → a.names ≡ (origin_from start a.rooted a.names).names
    same_names a = names_are start a.rooted a.names

    shown_along : (a : Beginning g.tree) → ArePlain a.names
        → ComesShown law d start asked depth view a by_components
    shown_along a plain = λ s listed h told fits.
        let f = origin_walk walked (origin_from start a.rooted a.names) s in
        let rule = same_rule a in
        seen.to_come (pending nothing (glob_walk (wants g.tree a []) walked
        (origin_from start a.rooted a.names) s) listed (count_shown s)) (
          refl,
          (
            pending nothing f listed (count_shown s),
            (begins_so a).shown s listed h told (subst ArePlain (same_names a) plain)
                (subst (λ ns. length ns ≤ walked.max) (same_names a) fits),
            (λ i. pending nothing (filtered (changed_by (of_candidate (rule i)))
                (cut_by (of_candidate (rule i))) f) listed (count_shown s)),
          ),
        )

    beyond_along : (a : Beginning g.tree) → ComesBeyond law d start asked depth view a by_components
    beyond_along a = λ s listed h told less.
        seen.to_come (pending nothing nothing listed 0) (
          refl,
          (
            pending nothing nothing listed 0,
            (begins_so a).beyond s listed h told (subst (λ ns. walked.max < length ns) (same_names a) less),
            refl,
          ),
        )

    takes_along : (a : Beginning g.tree) → ArePlain a.names → (c : Course) → MayTake view c
        → WalkTakes (walk_for (request_of start asked depth a [])) c
    takes_along a plain c t =
        let leading = leading_mark (component_test {A = Span}) cs decides g in
        let p = take_ruled inner view leading seen c t in
        ruled_takes (walk_for (request_of start asked depth a [])) leading p.0 c refl
        (subst ArePlain (same_names a) plain)
        (ap of_candidate (sym (same_rule a)) ∙ sym (any_alone (of_candidate (glob_mark a.rooted g.tree))))
        ((begins_so a).takes p.0 p.1) p.2

    fails_along : (a : Beginning g.tree)
        → FailsFrom asked.min (origin_from start a.rooted a.names).path a.names view
    fails_along a =
        let at = origin_from start a.rooted a.names in
        fails_seen inner (leading_mark (component_test {A = Span}) cs decides g) asked.min at.path a.names
        (subst (λ ns. FailsFrom asked.min at.path ns inner) (sym (same_names a)) (begins_so a).fails) seen

    listings_along : view.listings_left ≡ asked.budget + 1
    listings_along = seen.listings_left ∙ b.listings ∙ ap (λ r. r.budget + 1) same_range

    idle_along : LeadsNowhere g.tree walked → view.is_idle
    idle_along (has_empty_name taken prefix p e) = absurd ((plan taken prefix p).0.unbroken e)
    idle_along (is_too_deep a less) =
        seen.idles (inr ((begins_so a).idle (subst (λ ns. walked.max < length ns) (same_names a) less)))

    too_deep : range.max < length (origin_from start rooted names).names → (a : Beginning g.tree)
        → walked.max < length a.names
    too_deep l a =
        let all : (origin_from start rooted names).names ≡ a.names =
        sym (names_are start rooted names) ∙ (same_beginning a).1 in
        subst (λ r. r.max < length a.names) same_range (subst (λ ns. range.max < length ns) all l)

    pub begins_along : BeginsGlob g.tree law d start asked view
    begins_along = record {
      depth = depth;
      depth_is = depth_is;
      begins = inl (record {
        taken = is.0;
        prefix = is.1;
        prefix_is = is.2;
        rooted = rooted;
        names = names;
        names_are = (plan is.0 is.1 is.2).0;
      });
      can = can;
      none_match = none_match;
      shown = λ a s listed h told plain fits. shown_along a plain s listed h told fits;
      beyond = beyond_along;
      unmeant = λ taken prefix p e path s listed h told. absurd ((plan taken prefix p).0.unbroken e);
      idle = idle_along;
      comes = λ a plain. comes_so law d start asked depth view a by_components
          (shown_along a plain) (beyond_along a)
          (takes_along a plain) listings_along;
      listings = listings_along;
      names = λ a. subst (λ ns. view.names_left ≤ length ns) (sym (same_names a))
          (subst (λ n. n ≤ length (origin_from start a.rooted a.names).names) (sym seen.names_left)
          (begins_so a).names);
      fails = fails_along;
      none_listed = seen.listings_open ∙ b.none_listed;
      begun = elim b.begun [
        | inl e ↦ inl (seen.to_begin ∙ e)
        | inr e ↦ inr (
          seen.idles (inr e.0),
          seen.to_begin ∙ e.1,
          elim e.2 [
            | inl l ↦ inl (too_deep l)
            | inr t ↦
                inr (lacks_ruled inner view (leading_mark (component_test {A = Span}) cs decides g) seen t)
          ],
        )
      ];
      none_to_open = seen.to_open ∙ b.none_to_open;
      yields_from = seen.yields_from ∙ b.yields_from ∙ ap (λ r. r.min) same_range;
      may_open = seen.may_open ∙ b.may_open ∙ ap (λ r. is_above r.max) same_range;
      directory = seen.directory ∙ b.directory;
    }

  pub begins_ended : (is : (taken : ℕ) × (prefix : List ℕ) × Prefix g.tree taken prefix)
      → (inner : WalkView D) (range : DepthRange) (rule : Candidate → Mark)
      → ((taken : ℕ) (prefix : List ℕ) → Prefix g.tree taken prefix → HasEmptyName prefix) →
      range ≡ within asked depth → HasEnded law d range inner → IsSeenAs (ruled_view inner rule false) view
      → BeginsGlob g.tree law d start asked view
  begins_ended is inner range rule known same b seen = record {
    depth = depth;
    depth_is = depth_is;
    begins = inr (inl (is.0, is.1, is.2, known is.0 is.1 is.2));
    can = can;
    none_match = none_match;
    shown =
        λ a s listed h told plain fits. absurd (a.names_are.unbroken (known a.taken a.prefix a.prefix_is));
    beyond = λ a s listed h told less. absurd (a.names_are.unbroken (known a.taken a.prefix a.prefix_is));
    unmeant = λ taken prefix p e path s listed h told.
        seen.to_come (pending nothing nothing listed 0)
        (refl, (pending nothing nothing listed 0, b.comes path s listed h told, refl));
    idle = λ h. seen.idles (inr b.idle);
    comes = λ a plain. absurd (a.names_are.unbroken (known a.taken a.prefix a.prefix_is));
    listings = seen.listings_left ∙ b.listings ∙ ap (λ r. r.budget + 1) same;
    names = λ a. omega (arith, seen.names_left, b.names);
    fails = λ a. fails_nowhere inner rule asked.min (origin_from start a.rooted a.names).path
        a.names b.fails seen;
    none_listed = seen.listings_open ∙ b.none_listed;
    begun = inr (
      seen.idles (inr b.idle),
      seen.to_begin ∙ b.begun,
      inl (λ a.
          absurd (a.names_are.unbroken (known a.taken a.prefix a.prefix_is))),
    );
    none_to_open = seen.to_open ∙ b.none_to_open;
    yields_from = seen.yields_from ∙ b.yields_from ∙ ap (λ r. r.min) same;
    may_open = seen.may_open ∙ b.may_open ∙ ap (λ r. is_above r.max) same;
    directory = seen.directory ∙ b.directory;
  }

  pub begins_refused : (inner : WalkView D) (range : DepthRange) (cs : List (List (Tree Span))) → cs ≡ []
      → range ≡ within asked depth → LacksMemory law d range inner →
      IsSeenAs (ruled_view inner (leading_mark (component_test {A = Span}) cs decides g) false) view →
      BeginsGlob g.tree law d start asked view
  begins_refused inner range cs none same b seen = record {
    depth = depth;
    depth_is = depth_is;
    begins = inr
        (inr (lacks_ruled inner view (leading_mark (component_test {A = Span}) cs decides g) seen b.takes));
    can = can;
    none_match = none_match;
    shown = λ a s listed h told plain fits. shown_refused a s listed h told fits;
    beyond = λ a s listed h told less. nothing_comes listed told;
    idle = λ h. seen.idles (inr b.idle);
    unmeant = λ taken prefix p e path s listed h told. nothing_comes listed told;
    comes = λ a plain.
        comes_so law d start asked depth view a by_components (shown_refused a)
        (λ s listed h told less. nothing_comes listed told)
        (λ c t. lacking
        (lacks_ruled inner view (leading_mark (component_test {A = Span}) cs decides g) seen b.takes c t))
        listings_refused;
    listings = listings_refused;
    names = λ a. omega (arith, seen.names_left, b.names);
    fails = λ a. fails_nowhere inner (leading_mark (component_test {A = Span}) cs decides g) asked.min
        (origin_from start a.rooted a.names).path a.names b.fails seen;
    none_listed = seen.listings_open ∙ b.none_listed;
    begun = inr (
      seen.idles (inr b.idle),
      seen.to_begin ∙ b.begun,
      inr
          (lacks_ruled inner view (leading_mark (component_test {A = Span}) cs decides g) seen b.takes),
    );
    none_to_open = seen.to_open ∙ b.none_to_open;
    yields_from = seen.yields_from ∙ b.yields_from ∙ ap (λ r. r.min) same;
    may_open = seen.may_open ∙ b.may_open ∙ ap (λ r. is_above r.max) same;
    directory = seen.directory ∙ b.directory;
  } where
    shown_refused : (a : Beginning g.tree) → ComesShown law d start asked depth view a by_components
    shown_refused a = λ s listed h told fits.
        let origin = origin_from start a.rooted a.names in
        let f = glob_walk (wants g.tree a []) walked origin s in
        seen.to_come (pending nothing f listed (count_shown s)) (
          refl,
          (
            pending nothing f listed (count_shown s),
            b.comes (pending nothing f listed (count_shown s)) told,
            (λ i. pending nothing (sym (same_forest g a.rooted (origin_walk walked origin s)) i)
                listed (count_shown s))
                ∙ ap (λ l. filtered_pending
                (changed_by (of_candidate (leading_mark (component_test {A = Span}) l decides g)))
                (cut_by (of_candidate (leading_mark (component_test {A = Span}) l decides g)))
                (pending nothing f listed (count_shown s))) (sym none),
          ),
        )

    nothing_comes : (listed : List (List ℕ)) → law.tells d listed
        → view.to_come (pending nothing nothing listed 0)
    nothing_comes listed told =
        seen.to_come (pending nothing nothing listed 0)
        (refl, (pending nothing nothing listed 0, b.comes (pending nothing nothing listed 0) told, refl))

    listings_refused : view.listings_left ≡ asked.budget + 1
    listings_refused = seen.listings_left ∙ b.listings ∙ ap (λ r. r.budget + 1) same
