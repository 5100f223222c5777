-- Which folders steps open, and which listings they read to the end.
use Rattle.std.proofs.Common.{◌≡◌, ℕ, ◌+◌, ◌<◌, ◌≤◌, Bool, true, false, cond, length, refl, ap, subst, sym}
use Rattle.std.proofs.{Common.{◌∙◌, arith, inl, inr}, lemmas.Bool.{cases_lt, lt-ltb}}
use Rattle.std.specs.Prelude.{Option, None, Some, ◌&&◌, nat_lt, List}
use Rattle.wax_directory.specs.{declared.directory.FileType.FileType, Law.Law, Counting.grown}
use Rattle.wax_walk.specs.Given.{Given, Facts, entry, kept}
use Rattle.wax_walk.specs.View.{is_folder_kind, is_above, WalkView, Accounts, CountsFaults, Takes}
use Rattle.wax_walk.specs.View.{fault_counts, items_lost, opens_one}
use Rattle.wax_tree.specs.{Reaching.OfEntered, declared.steps.Steps.Steps, declared.steps.Step.Step}
use Rattle.wax_tree.specs.{declared.steps.Step.TheVariants.GoesOn, Stepping.{StepAnswers, IsStep, Remembers}}
use Rattle.wax_tree.specs.Walking.{HasStopped, allowance, begins, entering, entering_after, if_some}
use Rattle.wax_tree.specs.Walking.{names_left, open_lists, step_given, steps_view}
use Rattle.wax_tree.proofs.{InRange.at_most, UsingAnswers.none_either}
use Rattle.wax_walk.proofs.Accounting.{accounts_nothing, counts_none_then, grown_then, takes_more}
use Rattle.wax_directory.specs.declared.directory.FileType.TheVariants as F
use Rattle.wax_tree.specs.declared.location.Location as code

not_above : (k : FileType) → ◌≡◌ {A = ℕ} (cond (is_folder_kind k && false) 1 0) 0
not_above F.File = refl
not_above F.Link = refl
not_above F.Folder = refl

not_folder : (k : FileType) (b : Bool) → (k ≡ F.Folder → ⊥)
    → ◌≡◌ {A = ℕ} (cond (is_folder_kind k && b) 1 0) 0
not_folder F.File b n = refl
not_folder F.Link b n = refl
not_folder F.Folder b n = absurd (n refl)

module _ {D C : Type 0} where
  -- no listing is open when the walk has stopped
  pub stopped_closed : (w : Steps D C) → HasStopped w → open_lists w ≡ 0
  stopped_closed w (inl e) = ap (λ b. cond b 0 (length w.levels.items)) e
  stopped_closed w (inr e) = none_either w.has_ended (length w.levels.items) (ap length e.2)

  -- nothing is to begin then
  pub stopped_begun : (w : Steps D C) → HasStopped w → begins w ≡ 0
  stopped_begun w (inl e) = ap (λ b. cond b 0 (if_some w.first 1)) e
  stopped_begun w (inr e) = none_either w.has_ended (if_some w.first 1) (ap (λ v. if_some v 1) e.0)

  -- a folder above the greatest depth was remembered, and nothing else
  pub remembers_one : (f : Facts) (w new : Steps D C) → new ≡ record w { entered = new.entered }
      → w.has_ended ≡ false → w.first ≡ None → w.entered ≡ None
      → ((f.kind ≡ F.Folder) → f.depth < w.max → if_some new.entered 1 ≡ 1)
      → ((p : List ℕ) (n : ℕ) → OfEntered new.entered p n → (f.kind ≡ F.Folder) × (f.depth < w.max))
      → entering new ≡ opens_one (is_above w.max) (Some (entry kept f))
  remembers_one f w new is going first entered to from =
      let here : entering new ≡ if_some new.entered 1 =
      ap entering is ∙ (ap (λ b. cond b 0 (entering_after w.first new.entered)) going ∙ ap
      (λ v. entering_after v new.entered) first) in
      here ∙ go new.entered refl where
        go : (e : Option code.Location) → new.entered ≡ e
            → if_some new.entered 1 ≡ cond (is_folder_kind f.kind && nat_lt f.depth w.max) 1 0
        go None e =
            let zero : if_some new.entered 1 ≡ 0 = ap (λ v. if_some v 1) e in
            zero ∙ sym (elim (cases_lt f.depth w.max) [
              | inl less ↦ not_folder f.kind (nat_lt f.depth w.max) (λ k. omega (arith, zero, to k less))
              | inr more ↦ ap (λ b. cond (is_folder_kind f.kind && b) 1 0) (at_most w.max f.depth more) ∙
                  not_above f.kind
            ])
        go (Some l) e =
            let O : Option code.Location → Type 0 = λ v. OfEntered v l.path.path l.depth in
            let t = from l.path.path l.depth (subst O (sym e) (refl, refl)) in
            let yes : is_folder_kind f.kind && nat_lt f.depth w.max ≡ true =
            ap (λ k. is_folder_kind k && nat_lt f.depth w.max) t.0 ∙ lt-ltb f.depth w.max t.1 in
            ap (λ v. if_some v 1) e ∙ sym (ap (λ b. cond b 1 0) yes)

module _ {D C : Type 0} (law : Law D C) where
  -- nothing was yielded so far
  abbrev pub AccountsSoFar : Steps D C → Steps D C → Type 0
  AccountsSoFar w mid = Accounts law (steps_view law w) None (steps_view law mid)

  -- one more step, and the call returns r
  pub accounts_run : (w mid new : Steps D C) (r : Option Given) → mid.min ≡ w.min → mid.max ≡ w.max
      → AccountsSoFar w mid → Accounts law (steps_view law mid) r (steps_view law new)
      → Accounts law (steps_view law w) r (steps_view law new)
  accounts_run w mid new r from above a b =
      let same : opens_one (is_above mid.max) r ≡ opens_one (is_above w.max) r =
      ap (λ m. opens_one (is_above m) r) above in
      record {
        counts = counts_none_then _ _ _ _ _ a.counts b.counts;
        taken = a.taken + b.taken;
        takes = takes_more r a.taken (allowance mid) b.taken (allowance new) (allowance w)
            (a.taken + b.taken) a.takes refl b.takes;
        counted = grown_then a.taken b.taken _ _ _ a.counted b.counted;
        passed = a.passed + b.passed;
        passes = λ e. omega (arith, a.passes e, b.passes (from ∙ e));
        refused = b.refused;
        refuses = b.refuses;
        gives = λ i. omega (arith, a.gives (λ v. v), a.refuses, b.gives i);
        going = λ n i. b.going n (a.going (λ v. v) i);
        folders = a.folders + b.folders;
        folders_passed = omega (arith, a.folders_passed, b.folders_passed);
        opened = a.opened + b.opened;
        opened_is = grown_then a.opened b.opened _ _ _ a.opened_is b.opened_is;
        ended = a.ended + b.ended;
        ended_is = grown_then a.ended b.ended _ _ _ a.ended_is b.ended_is;
        opens = λ i. omega (arith, a.opens (λ v. v), b.opens i, same);
        closes = λ i. omega (arith, a.closes (λ v. v), b.closes i);
        ends = b.ends;
      }

  -- one more step without an item
  pub accounts_on : (w mid new : Steps D C) → mid.min ≡ w.min → mid.max ≡ w.max → AccountsSoFar w mid
      → Accounts law (steps_view law mid) None (steps_view law new) → AccountsSoFar w new
  accounts_on w mid new from above a b = accounts_run w mid new None from above a b

  -- no step yet
  pub accounts_none : (w : Steps D C) → AccountsSoFar w w
  accounts_none w = accounts_nothing law (steps_view law w)

  -- the walk was seen otherwise before
  accounts_seen : (u v : WalkView D) (r : Option Given) (new : WalkView D) → u.directory ≡ v.directory
      → u.listings_left ≡ v.listings_left → u.yields_from ≡ v.yields_from → u.to_begin ≡ v.to_begin
      → u.to_open ≡ v.to_open → u.may_open ≡ v.may_open
      → u.listings_open ≡ v.listings_open → Accounts law v r new
      → Accounts law u r new
  accounts_seen u v r new d left from begun opens above lists h =
      let same : opens_one u.may_open r ≡ opens_one v.may_open r = ap (λ m. opens_one m r) above in
      let A : D → Type 0 = λ x. CountsFaults (fault_counts r) (items_lost r) (law.tally x)
      (law.tally new.directory) in
      let B : D → Type 0 = λ x. (law.tally new.directory).items ≡ grown h.taken (law.tally x).items in
      let O : D → Type 0 = λ x. (law.tally new.directory).opened ≡ grown h.opened (law.tally x).opened in
      let E : D → Type 0 = λ x. (law.tally new.directory).ended ≡ grown h.ended (law.tally x).ended in
      let L : ℕ → Type 0 = λ n. Takes r n h.taken new.listings_left in
      record {
        counts = subst A (sym d) h.counts;
        taken = h.taken;
        takes = subst L (sym left) h.takes;
        counted = subst B (sym d) h.counted;
        passed = h.passed;
        passes = λ e. h.passes (sym from ∙ e);
        refused = h.refused;
        refuses = h.refuses;
        gives = λ n. omega (arith, h.gives n, begun);
        opened = h.opened;
        opened_is = subst O (sym d) h.opened_is;
        ended = h.ended;
        ended_is = subst E (sym d) h.ended_is;
        going = λ n i. h.going n (omega (arith, i, left));
        folders = h.folders;
        folders_passed = h.folders_passed;
        opens = λ n. omega (arith, h.opens n, opens, same);
        closes = λ n. omega (arith, h.closes n, lists);
        ends = h.ends;
      }

  -- a step that goes on from `mid`, seen as u
  pub step_is : (w mid new : Steps D C) (u : WalkView D) (r : Step) → ¬ (HasStopped w) → mid.max ≡ w.max
      → mid.min ≡ w.min → w.directory ≡ u.directory
      → allowance w ≡ u.listings_left → w.min ≡ u.yields_from → begins w ≡ u.to_begin
      → entering w ≡ u.to_open → is_above w.max ≡ u.may_open → open_lists w ≡ u.listings_open
      → u.names_left ≤ names_left w
      → StepAnswers law u r new → Remembers mid r new → IsStep law w r new
  step_is w mid new u r running max min d left from begun opens above lists few a m =
      let T : (Facts → Bool) → Type 0 = λ o. ¬ (r ≡ GoesOn) → entering new ≡ opens_one o (step_given r) in
      record {
        accounts =
            accounts_seen (steps_view law w) u (step_given r) (steps_view law new) d left from begun opens
            above lists a.accounts;
        at_end = λ e. absurd (a.goes_on e);
        stays = λ h. absurd (running h);
        idles = λ h. absurd (running h);
        names = omega (arith, a.names_left, few);
        misplaced = λ i. omega (arith, a.misplaced i, few);
        to_open = subst T (sym above) a.to_open;
        above = m.above ∙ max;
        from = m.from ∙ min;
      }
