-- What steps count, take and end.
use Rattle.std.proofs.Common.{◌≡◌, ℕ, ◌+◌, ◌<◌, ◌≤◌, Bool, true, false, cond, refl, sym, ap, subst, ◌∙◌}
use Rattle.std.proofs.Common.{arith, inl, inr, List, [], ◌∷◌, ◌++◌}
use Rattle.std.proofs.lemmas.List.Elements.{Contains-append_left}
use Rattle.std.specs.{Prelude.{Option, Some, None, Result, Ok, Err}, List.Contains}
use Rattle.wax_directory.specs.{Counting.{Counts, no_counts, grown, kind_counts}, Law.Law}
use Rattle.wax_directory.specs.{declared.tally.Tally.Tally, declared.directory.FileType.FileType}
use Rattle.wax_walk.specs.declared.error.WalkError.TheVariants.{Memory}
use Rattle.wax_walk.specs.Forest.{Forest, nothing, item, pending, Pending, all_pending, FirstIs, IsListed}
use Rattle.wax_walk.specs.{Forest.listed_next, declared.error.WalkError.WalkError}
use Rattle.wax_walk.specs.{declared.entry.TreeEntry.TreeEntry, Given.{Facts, Given, entry, fault, no_memory}}
use Rattle.wax_walk.specs.declared.error.FaultKind.TheVariants.{Budget}
use Rattle.wax_walk.specs.View.{IsLast, IsMisplaced, Takes, fault_counts, CountsFaults, GivesOrStops}
use Rattle.wax_walk.specs.View.{is_above, lacks_memory, over_budget, gives, items_lost, how_many}
use Rattle.wax_walk.specs.View.{IsMemoryError, opens_one}
use Rattle.wax_tree.specs.{declared.steps.Steps.Steps, declared.steps.Step.Step}
use Rattle.wax_tree.specs.declared.steps.Step.TheVariants.{Gives, GoesOn, Ends}
use Rattle.wax_tree.specs.Stepping.{IsCounted, Asked, UsesAnswer, nothing_asked, StepAnswers, StepIs}
use Rattle.wax_tree.specs.Walking.{step_given, tree_given, names_left, allowance, Rest, AtRest, PlainToCome}
use Rattle.wax_tree.specs.Walking.{steps_view, open_lists, begins, entering, entering_after, if_some}
use Rattle.wax_tree.specs.declared.steps.StartPoint.{StartPoint}
use Rattle.wax_tree.proofs.{Resting.comes_ended, Stepping.gives_fault}
use Rattle.wax_directory.specs.declared.directory.FileType.TheVariants as F
use Rattle.wax_tree.specs.declared.location.Location as code

same_first : (then : Pending Given → Type 0) (p q : Pending Given) (n : ℕ) (r : Option Given)
    → all_pending p ≡ all_pending q → p.listed ≡ q.listed → FirstIs then (all_pending q) q.listed n r
    → FirstIs then (all_pending p) p.listed n r
same_first then p q n r f l h = subst (λ v. FirstIs then v p.listed n r) (sym f)
    (subst (λ v. FirstIs then (all_pending q) v n r) (sym l) h)

same_listed : (p q : Pending Given) (path : List ℕ) → all_pending p ≡ all_pending q → p.listed ≡ q.listed
    → IsListed q path → IsListed p path
same_listed p q path f l h = subst (λ ps. Contains ps path)
    (λ i. sym l i ++ listed_next (sym f i)) h

pub counted_same : (k : Tally) (lost : ℕ) → IsCounted k lost k
counted_same k lost = record {
  misses = refl;
  leaves = omega arith;
  failures_lost = 0;
  failures = omega arith;
  names_lost = 0;
  bad_names = omega arith;
  within = omega arith;
}

pub none_either : (b : Bool) (n : ℕ) → n ≡ 0 → cond b 0 n ≡ 0
none_either true n e = refl
none_either false n e = e

-- beside what asked nothing, only leaves were counted
no_more : (n : Tally) (lost : ℕ) (k : Tally) → IsCounted n lost no_counts → k.misses ≡ 0 → k.failures ≡ 0
    → k.bad_names ≡ 0 → IsCounted n lost k
no_more n lost k c m f b = record {
  misses = m ∙ c.misses;
  leaves = omega (arith, c.leaves);
  failures_lost = c.failures_lost;
  failures = f ∙ c.failures;
  names_lost = c.names_lost;
  bad_names = b ∙ c.bad_names;
  within = c.within;
}

-- a file or a link was counted
pub leaf_counted : (kind : FileType) → ¬ (kind ≡ F.Folder) → IsCounted (record no_counts { leaves = 1 }) 0
    (kind_counts (Ok (Some kind)))
leaf_counted F.File n = counted_same _ 0
leaf_counted F.Link n = counted_same _ 0
leaf_counted F.Folder n = absurd (n refl)

-- what `kind` found has no fault
pub kind_counted : (kind : FileType) (lost : ℕ) → IsCounted no_counts lost (kind_counts (Ok (Some kind)))
kind_counted F.File lost = no_more no_counts lost _ (counted_same no_counts lost) refl refl refl
kind_counted F.Link lost = no_more no_counts lost _ (counted_same no_counts lost) refl refl refl
kind_counted F.Folder lost = counted_same no_counts lost

-- what `kind` found has no fault, beside a step that asked nothing
pub found_counted : (n : Tally) (lost : ℕ) (kind : FileType) → IsCounted n lost no_counts
    → IsCounted n lost (kind_counts (Ok (Some kind)))
found_counted n lost F.File c = no_more n lost _ c refl refl refl
found_counted n lost F.Link c = no_more n lost _ c refl refl refl
found_counted n lost F.Folder c = c

-- what `kind` found is no item, and opens and ends nothing
pub record NoListing (k : Tally) : Type 0 where
  pub items : k.items ≡ 0
  pub opened : k.opened ≡ 0
  pub ended : k.ended ≡ 0

pub kind_no_listing : (kind : FileType) → NoListing (kind_counts (Ok (Some kind)))
kind_no_listing F.File = record { items = refl; opened = refl; ended = refl }
kind_no_listing F.Link = record { items = refl; opened = refl; ended = refl }
kind_no_listing F.Folder = record { items = refl; opened = refl; ended = refl }

-- an opened folder has no fault
pub opening_counted : IsCounted no_counts 0 (record no_counts { opened = 1 })
opening_counted = no_more no_counts 0 _ (counted_same no_counts 0) refl refl refl

pub opening_lost : IsCounted no_counts 1 (record no_counts { opened = 1 })
opening_lost = no_more no_counts 1 _ (counted_same no_counts 1) refl refl refl

pub ending_counted : IsCounted no_counts 0 (record no_counts { ended = 1 })
ending_counted = no_more no_counts 0 _ (counted_same no_counts 0) refl refl refl

-- one failure, whatever else was counted but misses, leaves and bad names
pub failure_counted : (k : Tally) → k.misses ≡ 0 → k.failures ≡ 1 → k.bad_names ≡ 0
    → IsCounted (record no_counts { failures = 1 }) 0 k
failure_counted k m f b = record {
  misses = m;
  leaves = omega arith;
  failures_lost = 0;
  failures = f;
  names_lost = 0;
  bad_names = b;
  within = omega arith;
}

-- an item that ends a walk is no folder
none_opened : (opens : Facts → Bool) (x : Given) → IsLast (Some x) → opens_one opens (Some x) ≡ 0
none_opened opens (entry m f) last = absurd last
none_opened opens (fault kind path depth) last = refl
none_opened opens no_memory last = refl

entered_either : (b : Bool) (f : Option StartPoint) (e : Option code.Location) → e ≡ None
    → cond b 0 (entering_after f e) ≡ 0
entered_either true f e i = refl
entered_either false None e i = ap (λ v. if_some v 1) i
entered_either false (Some place) e i = refl

entered_most : (b : Bool) (f : Option StartPoint) (e : Option code.Location)
    → cond b 0 (entering_after f e) ≤ 1
entered_most true f e = omega arith
entered_most false None None = omega arith
entered_most false None (Some e) = omega arith
entered_most false (Some place) e = omega arith

module _ {D C : Type 0} where
  -- nothing is to begin where there is no start point
  pub none_begins : (w : Steps D C) → w.first ≡ None → begins w ≡ 0
  none_begins w e = ap (λ v. cond w.has_ended 0 (if_some v 1)) e ∙ none_either w.has_ended 0 refl

  -- allocation failed
  pub failed_uses_answer : (asked : Asked) (w : Steps D C) → IsCounted no_counts 1 asked.counts
      → names_left w ≤ asked.names → asked.taken ≤ allowance w
      → UsesAnswer asked w (Gives (Err Memory)) (record w { has_ended = true })
  failed_uses_answer asked w c few taken = record {
    goes_on = λ e. (cc);
    directory = refl;
    counts = c;
    passed = 0;
    passes = λ e. refl;
    gives = λ n. absurd (n tt);
    passes_alone = λ i. refl;
    going = λ n. absurd (n tt);
    folders = 0;
    folders_passed = omega arith;
    enters = λ going first entered n. absurd (n tt);
    takes = omega (arith, taken);
    ends = λ i. refl;
    names = few;
    misplaced = λ i. absurd i;
  }

  -- allocation failed, and the walk has ended
  pub memory_uses_answer : (asked : Asked) (w new : Steps D C) (r : Step) → r ≡ Gives (Err Memory)
      → new.directory ≡ w.directory → new.has_ended ≡ true → names_left new ≤ asked.names
      → IsCounted no_counts 1 asked.counts → asked.taken ≤ allowance w → UsesAnswer asked w r new
  memory_uses_answer asked w new r e d ended few c taken =
      let none : allowance new ≡ 0 = ap (λ b. cond b 0 (new.budget + 1)) ended in
      subst (λ v. UsesAnswer asked w v new) (sym e) (record {
        goes_on = λ i. (cc);
        directory = d;
        counts = c;
        passed = 0;
        passes = λ i. refl;
        gives = λ n. absurd (n tt);
        passes_alone = λ i. refl;
        going = λ n. absurd (n tt);
        folders = 0;
        folders_passed = omega arith;
        enters = λ going first entered n. absurd (n tt);
        takes = omega (arith, taken, none);
        ends = λ i. ended;
        names = few;
        misplaced = λ i. absurd i;
      })

  -- no item yet
  pub silent_uses_answer : (asked : Asked) (w new : Steps D C) (passed folders : ℕ) → folders ≤ passed
      → (w.has_ended ≡ false → w.first ≡ None → w.entered ≡ None → entering new ≡ folders)
      → asked.taken ≡ 0 → new.directory ≡ w.directory
      → asked.taken + allowance new ≡ allowance w → names_left new ≤ asked.names
      → IsCounted no_counts 0 asked.counts → (w.min ≡ 0 → passed ≡ 0) → asked.made ≡ passed + begins new
      → UsesAnswer asked w GoesOn new
  silent_uses_answer asked w new passed folders f enters z d t few c p m = record {
    goes_on = λ i. (cc);
    directory = d;
    counts = c;
    passed = passed;
    passes = p;
    gives = λ n. omega (arith, m);
    passes_alone = λ i. absurd (omega (arith, i));
    going = λ n i. omega (arith, i, t, z);
    folders = folders;
    folders_passed = f;
    enters = λ going first entered n. omega (arith, enters going first entered);
    takes = t;
    ends = λ i. absurd i;
    names = few;
    misplaced = λ i. absurd i;
  }

  -- an entry is yielded, and remembered to be entered if it is a folder
  pub entered_uses_answer : (names : ℕ) (w new : Steps D C) (e : TreeEntry)
      → new ≡ record w { entered = new.entered } → names_left w ≤ names
      → (w.has_ended ≡ false → w.first ≡ None → w.entered ≡ None
      → entering new ≡ opens_one (is_above w.max) (step_given (Gives (Ok e))))
      → UsesAnswer (nothing_asked names (begins w + 1)) w (Gives (Ok e)) new
  entered_uses_answer names w new e is few enters =
      let left : allowance new ≡ allowance w = ap allowance is in
      let begun : begins new ≡ begins w = ap begins is in
      let named : names_left new ≡ names_left w = ap names_left is in
      record {
        goes_on = λ i. (cc);
        directory = ap (λ (v : Steps D C). v.directory) is;
        counts = counted_same _ 0;
        passed = 0;
        passes = λ i. refl;
        gives = λ n. omega (arith, begun);
        passes_alone = λ i. refl;
        going = λ n i. omega (arith, i, left);
        folders = 0;
        folders_passed = omega arith;
        enters = λ going first entered n. omega (arith, enters going first entered);
        takes = omega (arith, left);
        ends = λ i. absurd i;
        names = omega (arith, named, few);
        misplaced = λ i. absurd i;
      }

  -- nothing is to be entered where no folder was remembered
  pub none_enters : (w : Steps D C) → w.entered ≡ None → entering w ≡ 0
  none_enters w e = entered_either w.has_ended w.first w.entered e

  pub one_enters : (w : Steps D C) → entering w ≤ 1
  one_enters w = entered_most w.has_ended w.first w.entered

  -- the entry of a place, which `kind` found
  pub kind_uses_answer : (kind : FileType) (names more : ℕ) (w new : Steps D C) (r : Step) → begins w ≡ 0
      → UsesAnswer (nothing_asked names (begins w + 1)) w r new
      → UsesAnswer
      (record { counts = kind_counts (Ok (Some kind)); taken = 0; names = names + more; made = 1 })
      w r new
  kind_uses_answer kind names more w new r none s = record {
    goes_on = s.goes_on;
    directory = s.directory;
    counts = found_counted (fault_counts (step_given r)) (items_lost (step_given r)) kind s.counts;
    passed = s.passed;
    passes = s.passes;
    gives = λ n. omega (arith, s.gives n, none);
    passes_alone = s.passes_alone;
    going = s.going;
    folders = s.folders;
    folders_passed = s.folders_passed;
    enters = s.enters;
    takes = s.takes;
    ends = s.ends;
    names = omega (arith, s.names);
    misplaced = λ i. omega (arith, s.misplaced i);
  }

  -- the walk ends with a fault
  pub stopped_uses_answer : (asked : Asked) (w new : Steps D C) (r : Step) (x : Given) → step_given r ≡ Some x
      → new ≡ record w { has_ended = true }
      → IsCounted (fault_counts (Some x)) (items_lost (Some x)) asked.counts
      → IsLast (Some x) → asked.made ≡ 1 → Takes (Some x) (allowance w) asked.taken 0
      → (IsMisplaced (Some x) → 0 < asked.names) → names_left w ≤ asked.names → UsesAnswer asked w r new
  stopped_uses_answer asked w new (Gives y) x e is c last o t m few =
      let K : Option Given → Type 0 = λ z. IsCounted (fault_counts z) (items_lost z) asked.counts in
      let T : Option Given → Type 0 = λ z. Takes z (allowance w) asked.taken 0 in
      let M : Option Given → Type 0 = λ z. IsMisplaced z → 0 < asked.names in
      let L : Option Given → Type 0 = λ z. IsLast z in
      let O : Option Given → Type 0 = λ z. opens_one (is_above w.max) z ≡ 0 in
      let zero : opens_one (is_above w.max) (step_given (Gives y)) ≡ 0 =
      subst O (sym e) (none_opened (is_above w.max) x last) in
      subst (λ v. UsesAnswer asked w (Gives y) v) (sym is) (record {
        goes_on = λ i. (cc);
        directory = refl;
        counts = subst K (sym e) c;
        passed = 0;
        passes = λ i. refl;
        gives = λ n. o;
        passes_alone = λ i. refl;
        going = λ n. absurd (n (subst L (sym e) last));
        folders = 0;
        folders_passed = omega arith;
        enters = λ going first entered n. omega (arith, zero);
        takes = subst T (sym e) t;
        ends = λ i. refl;
        names = few;
        misplaced = subst M (sym e) m;
      })
  stopped_uses_answer asked w new GoesOn x e is c last o t m few = cc
  stopped_uses_answer asked w new Ends x e is c last o t m few = cc

  -- an item is yielded without a call of the directory
  pub gives_uses_answer : (asked : Asked) (w : Steps D C) (y : Result TreeEntry WalkError)
      → IsCounted (fault_counts (Some (tree_given y))) (items_lost (Some (tree_given y))) asked.counts
      → opens_one (is_above w.max) (Some (tree_given y)) ≡ 0 → asked.made ≡ begins w + 1
      → Takes (Some (tree_given y)) (allowance w) asked.taken (allowance w)
      → (IsLast (Some (tree_given y)) → ⊥) → (IsMisplaced (Some (tree_given y)) → ⊥)
      → names_left w ≤ asked.names → UsesAnswer asked w (Gives y) w
  gives_uses_answer asked w y c z o t l m few = record {
    goes_on = λ e. (cc);
    directory = refl;
    counts = c;
    passed = 0;
    passes = λ e. refl;
    gives = λ n. omega (arith, o);
    passes_alone = λ i. refl;
    going = λ n i. i;
    folders = 0;
    folders_passed = omega arith;
    enters = λ going first entered n. omega (arith, none_enters w entered, z);
    takes = t;
    ends = λ i. absurd (l i);
    names = few;
    misplaced = λ i. absurd (m i);
  }

module _ {D C : Type 0} (law : Law D C) where
  -- the directory was called, and the step used its result
  pub answer_used : (asked : Asked) (w : Steps D C) (lists enters begun refused : ℕ) (d : D) (r : Step)
      (new : Steps D C)
      → Counts asked.counts (law.tally w.directory) (law.tally d) → asked.counts.items ≡ asked.taken
      → refused ≤ (fault_counts (step_given r)).failures
      → (¬ (IsMemoryError (step_given r)) → asked.taken + (refused + begun) ≡ asked.made)
      → w.has_ended ≡ false → w.first ≡ None → w.entered ≡ None
      → (¬ (IsMemoryError (step_given r)) → asked.counts.opened ≡ enters)
      → (¬ (IsLast (step_given r)) → lists + asked.counts.opened ≡ asked.counts.ended + open_lists new)
      → UsesAnswer asked (record w { directory = d }) r new → StepAnswers law (record (steps_view law w) {
        names_left = asked.names;
        to_begin = begun;
        listings_open = lists;
        to_open = enters;
      }) r new
  answer_used asked w lists enters begun refused d r new c i refuses made going first entered opens closes s =
      let A : D → Type 0 = λ v. CountsFaults (fault_counts (step_given r)) (items_lost (step_given r))
      (law.tally w.directory) (law.tally v) in
      let B : D → Type 0 = λ v. (law.tally v).items ≡ grown asked.taken (law.tally w.directory).items in
      let O : D → Type 0 =
      λ v. (law.tally v).opened ≡ grown asked.counts.opened (law.tally w.directory).opened in
      let E : D → Type 0 =
      λ v. (law.tally v).ended ≡ grown asked.counts.ended (law.tally w.directory).ended in
      record {
        goes_on = s.goes_on;
        accounts = record {
          counts = subst A (sym s.directory) (record {
            misses = omega (arith, c.misses, s.counts.misses);
            leaves = omega (arith, c.leaves, s.counts.leaves);
            failures_lost = s.counts.failures_lost;
            failures = omega (arith, c.failures, s.counts.failures);
            names_lost = s.counts.names_lost;
            bad_names = omega (arith, c.bad_names, s.counts.bad_names);
            within = s.counts.within;
          });
          passed = s.passed;
          passes = s.passes;
          refused = refused;
          refuses = refuses;
          gives = λ n. omega (arith, made n, s.gives n);
          taken = asked.taken;
          takes = s.takes;
          counted = subst B (sym s.directory) (omega (arith, c.items, i));
          opened = asked.counts.opened;
          opened_is = subst O (sym s.directory) c.opened;
          ended = asked.counts.ended;
          ended_is = subst E (sym s.directory) c.ended;
          going = s.going;
          folders = s.folders;
          folders_passed = s.folders_passed;
          opens = λ n. omega (arith, opens n, s.enters going first entered n);
          closes = closes;
          ends = λ l. inl (s.ends l);
        };
        names_left = s.names;
        misplaced = s.misplaced;
        to_open = opened_by r refl;
      } where
        opened_by : (q : Step) → r ≡ q → ¬ (q ≡ GoesOn)
            → entering new ≡ opens_one (is_above w.max) (step_given r)
        opened_by GoesOn e n = absurd (n refl)
        opened_by Ends e n = absurd (s.goes_on e)
        opened_by (Gives y) e n = by (tree_given y) (ap step_given e) where
          by : (x : Given) → step_given r ≡ Some x → entering new ≡ opens_one (is_above w.max) (step_given r)
          by no_memory k =
              let last : IsLast (step_given r) = subst (λ v. IsLast v) (sym k) tt in
              let none : entering new ≡ 0 =
              ap (λ b. cond b 0 (entering_after new.first new.entered)) (s.ends last) in
              let zero : opens_one (is_above w.max) (step_given r) ≡ 0 = ap (opens_one (is_above w.max)) k in
              omega (arith, none, zero)
          by (entry m f) k =
              let one : how_many (step_given r) ≡ 1 = ap how_many k in
              omega (
                arith,
                s.enters going first entered (λ l. subst (λ v. IsMemoryError v) k l),
                s.folders_passed,
                s.passes_alone one,
              )
          by (fault kind path depth) k =
              let one : how_many (step_given r) ≡ 1 = ap how_many k in
              omega (
                arith,
                s.enters going first entered (λ l. subst (λ v. IsMemoryError v) k l),
                s.folders_passed,
                s.passes_alone one,
              )

  -- the walk ends with a fault, and nothing more was to come
  pub stops_with : (w new : Steps D C) (head : Forest Given) (rest : Rest) (items : ℕ) (x : Given) (r : Step)
      → step_given r ≡ Some x → IsLast (Some x) → new ≡ record w { has_ended = true }
      → head ≡ item x nothing rest.forest → AtRest law w rest → w.levels.items ≡ [] → rest.count ≤ items
      → StepIs law w (pending nothing head rest.listed items) r new
  stops_with w new head rest items x (Gives y) e last is h r none few =
      let g : tree_given y ≡ x = cc in
      gives_fault law w new head rest.forest rest.listed items x y h g (λ n. absurd (n last))
      (subst (λ v. PlainToCome law v (pending nothing rest.forest rest.listed items)) (sym is)
      (comes_ended law w items rest r none few))
  stops_with w new head rest items x GoesOn e last is h r none few = cc
  stops_with w new head rest items x Ends e last is h r none few = cc

  -- the budget is reached
  pub stops_over : (w new : Steps D C) (p : Pending Given) (path : List ℕ) (depth : ℕ) (r : Step)
      → step_given r ≡ Some (fault Budget path depth) → allowance w ≤ p.items → Contains p.listed path
      → StepIs law w p r new
  stops_over w new p path depth (Gives y) e few h =
      over_budget path depth e few (Contains-append_left p.listed (listed_next (all_pending p)) path h)
  stops_over w new p path depth GoesOn e few h = cc
  stops_over w new p path depth Ends e few h = cc

  -- from an earlier state the same was to come, except for the items taken since
  pub step_from : (w mid new : Steps D C) (p q : Pending Given) (r : Step) → all_pending p ≡ all_pending q
      → p.listed ≡ q.listed → p.items + allowance mid ≡ q.items + allowance w → StepIs law mid q r new
      → StepIs law w p r new
  step_from w mid new p q (Gives y) f l a s = go s where
    go : GivesOrStops (steps_view law mid) q (Some (tree_given y)) (steps_view law new)
        → GivesOrStops (steps_view law w) p (Some (tree_given y)) (steps_view law new)
    go (lacks_memory e) = lacks_memory e
    go (over_budget path depth e few h) =
        over_budget path depth e (omega (arith, few, a)) (same_listed p q path f l h)
    go (gives n few first) = gives n (λ m. omega (arith, few m, a))
        (same_first (PlainToCome law new) p q n _ f l first)
  step_from w mid new p q GoesOn f l a s = (
    s.0,
    s.1,
    elim s.2 [
      | inl e ↦ inl (f ∙ e.0, e.1 ∙ sym l)
      | inr e ↦
          inr (e.0, f ∙ e.1, e.2 ∙ ap (λ v. v ++ e.0 ∷ []) (sym l))
    ],
    omega (arith, s.3, a),
  )
  step_from w mid new p q Ends f l a s = go s where
    go : GivesOrStops (steps_view law mid) q None (steps_view law new)
        → GivesOrStops (steps_view law w) p None (steps_view law new)
    go (lacks_memory e) = lacks_memory e
    go (over_budget path depth e few h) =
        over_budget path depth e (omega (arith, few, a)) (same_listed p q path f l h)
    go (gives n few first) = gives n (λ m. omega (arith, few m, a))
        (same_first (PlainToCome law new) p q n _ f l first)
