-- What is found in a folder.
use Rattle.std.proofs.Common.{◌≡◌, ℕ, ◌+◌, ◌-◌, List, false, inl, inr, sym, subst, ◌∙◌, arith, string_bytes}
use Rattle.std.proofs.{Common.{◌<◌, ◌≤◌, Bool, true, cond, refl}, lemmas.Str.IsUtf8-string_bytes}
use Rattle.std.specs.{Prelude.{Option, Some, None, Err, String}, declared.alloc.Global.Global}
use Rattle.wax_directory.specs.{declared.directory.FileType.FileType, declared.directory.ListItem.ListItem}
use Rattle.wax_directory.specs.{declared.tally.Tally.Tally, Answers.listed_of}
use Rattle.wax_directory.specs.{Counting.{item_counts, no_counts}, Names.is_plain}
use Rattle.wax_directory.specs.{Shown.{Items, Shown, ShowsIn, first_item}, PlainNames.{not_plain, plain_of}}
use Rattle.wax_walk.specs.{declared.entry.TreeEntry.TreeEntry, declared.error.FaultKind.FaultKind}
use Rattle.wax_walk.specs.{Entries.facts_of, Forest.{Forest, nothing, item}}
use Rattle.wax_walk.specs.{Given.{Given, entry, fault, no_memory}, View.{Takes, fault_counts, items_lost}}
use Rattle.wax_tree.specs.{declared.steps.FoundItem.TheVariants.{Entry, Fault}, declared.steps.Step.Step}
use Rattle.wax_tree.specs.{declared.steps.Step.TheVariants.Gives, declared.steps.Steps.Steps}
use Rattle.wax_tree.specs.Plain.{WalkScope, Location, count_shown, entry_forest, HasKind}
use Rattle.wax_tree.specs.{inner.Finding.{IsFault, IsFound}, inner.Heads.{first_item_forest, own_count}}
use Rattle.wax_tree.specs.Stepping.{Asked, IsCounted, UsesAnswer, nothing_asked}
use Rattle.wax_tree.specs.Walking.{allowance, begins, entry_location, names_left, step_given}
use Rattle.wax_tree.proofs.UsingAnswers.{gives_uses_answer}
use Rattle.wax_tree.proofs.Showing.{takes_name, takes_misnamed, takes_failed, takes_not_text}
use Rattle.wax_directory.specs.declared.directory.ListItem.TheVariants as I
use Rattle.wax_walk.specs.declared.error.FaultKind.TheVariants as K
use Rattle.wax_walk.specs.declared.error.WalkError.TheVariants as W

module _ (scope : WalkScope) (at : Location) (shows : List ℕ → Shown → Type 0) where
  -- an entry of the folder
  pub found_entry : (x : ListItem) (e : TreeEntry) (l : Items) (g : Forest Given)
      → IsFound at x (Entry e) → Some (listed_of x) ≡ first_item l → ShowsIn shows at.path l
      → let f = facts_of e in
      ((s : Shown) × shows f.path s × HasKind s f.kind × (own_count l ≡ count_shown s)
      × (first_item_forest scope at l g ≡ entry_forest scope (entry_location f) f.kind s g))
  found_entry (I.Name name k) e l g f h i = elim f [
    | inl a ↦
        let t = takes_name scope at shows (string_bytes name) k l g h
        (plain_of (string_bytes name) (IsUtf8-string_bytes name) a.0) i in
        let is = sym a.1 in (
          t.0,
          subst (λ v. shows v.path t.0) is t.1,
          subst (λ v. HasKind t.0 v.kind) is t.2,
          t.3,
          t.4 ∙ (λ j. entry_forest scope (entry_location (is j)) (is j).kind t.0 g),
        )
    | inr a ↦ absurd a.1
  ]
  found_entry I.Failed e l g f h i = absurd f
  found_entry I.NotText e l g f h i = absurd f

  fault_told : (kind : FaultKind) (k : FaultKind) (path : String Global) (head g : Forest Given)
      → IsFault at kind (Fault k path) → head ≡ item (fault kind at.path (at.depth - 1)) nothing g
      → head ≡ item (fault k (string_bytes path) (at.depth - 1)) nothing g
  fault_told kind k path head g f h =
      h ∙ (λ j. item (fault (sym f.0 j) (sym f.1 j) (at.depth - 1)) nothing g)

  -- a fault of the folder
  pub found_fault : (x : ListItem) (kind : FaultKind) (path : String Global) (l : Items) (g : Forest Given)
      → IsFound at x (Fault kind path) → Some (listed_of x) ≡ first_item l → ShowsIn shows at.path l
      → first_item_forest scope at l g ≡ item (fault kind (string_bytes path) (at.depth - 1)) nothing g
  found_fault (I.Name name k) kind path l g f h i = elim f [
    | inl a ↦ absurd a.1
    | inr a ↦
        fault_told K.BadName kind path (first_item_forest scope at l g) g a.1
        (takes_misnamed scope at shows (string_bytes name) k l g h (not_plain (string_bytes name) a.0) i)
  ]
  found_fault I.Failed kind path l g f h i =
      fault_told K.Listing kind path (first_item_forest scope at l g) g f (takes_failed scope at l g h)
  found_fault I.NotText kind path l g f h i =
      fault_told K.NotText kind path (first_item_forest scope at l g) g f (takes_not_text scope at l g h)

-- ---- what a step makes of it

-- an entry's name is plain, so nothing but an item is counted
plain_counted : (at : Location) (x : ListItem) (e : TreeEntry) (n : Tally) (lost : ℕ)
    → IsFound at x (Entry e) → IsCounted n lost no_counts → IsCounted n lost (item_counts x)
plain_counted at (I.Name name kind) e n lost f c = elim f [
  | inl a ↦ record {
    misses = c.misses;
    leaves = omega (arith, c.leaves);
    failures_lost = c.failures_lost;
    failures = c.failures;
    names_lost = c.names_lost;
    bad_names = rw a.0 c.bad_names;
    within = c.within;
  }
  | inr a ↦ absurd a.1
]
plain_counted at I.Failed e n lost f c = absurd f
plain_counted at I.NotText e n lost f c = absurd f

one_name : (b : Bool) → cond b 0 1 ≤ 1
one_name true = omega arith
one_name false = omega arith

-- an item is one item, and opens and ends nothing
pub record OneItem (k : Tally) : Type 0 where
  pub items : k.items ≡ 1
  pub opened : k.opened ≡ 0
  pub ended : k.ended ≡ 0

pub one_item : (x : ListItem) → OneItem (item_counts x)
one_item (I.Name name kind) = record { items = refl; opened = refl; ended = refl }
one_item I.Failed = record { items = refl; opened = refl; ended = refl }
one_item I.NotText = record { items = refl; opened = refl; ended = refl }

-- an item has one fault at most
pub item_lost : (x : ListItem) → IsCounted no_counts 1 (item_counts x)
item_lost (I.Name name kind) =
    let one = one_name (is_plain (string_bytes name)) in record {
      misses = refl;
      leaves = omega arith;
      failures_lost = 0;
      failures = refl;
      names_lost = cond (is_plain (string_bytes name)) 0 1;
      bad_names = omega arith;
      within = omega (arith, one);
    }
item_lost I.Failed = record {
  misses = refl;
  leaves = omega arith;
  failures_lost = 1;
  failures = refl;
  names_lost = 0;
  bad_names = refl;
  within = omega arith;
}
item_lost I.NotText = record {
  misses = refl;
  leaves = omega arith;
  failures_lost = 1;
  failures = refl;
  names_lost = 0;
  bad_names = refl;
  within = omega arith;
}

misnamed_counted : (name : String Global) (kind : FileType) (path : List ℕ) (depth : ℕ)
    → is_plain (string_bytes name) ≡ false
    → IsCounted (fault_counts (Some (fault K.BadName path depth))) 0 (item_counts (I.Name name kind))
misnamed_counted name kind path depth e = record {
  misses = refl;
  leaves = omega arith;
  failures_lost = 0;
  failures = omega arith;
  names_lost = 0;
  bad_names = rw e (omega arith);
  within = omega arith;
}

failed_counted : IsCounted (record no_counts { failures = 1 }) 0
    (record no_counts { items = 1; failures = 1 })
failed_counted = record {
  misses = refl;
  leaves = omega arith;
  failures_lost = 0;
  failures = omega arith;
  names_lost = 0;
  bad_names = omega arith;
  within = omega arith;
}

takes_more : (r : Option Given) (n m left : ℕ) → n ≡ m + 1 → Takes r m 0 left → Takes r n 1 left
takes_more None n m left e h = omega (arith, e, h)
takes_more (Some no_memory) n m left e h = omega (arith, e, h)
takes_more (Some (entry mark facts)) n m left e h = omega (arith, e, h)
takes_more (Some (fault K.NotFound path depth)) n m left e h = omega (arith, e, h)
takes_more (Some (fault K.NotAFolder path depth)) n m left e h = omega (arith, e, h)
takes_more (Some (fault K.Listing path depth)) n m left e h = omega (arith, e, h)
takes_more (Some (fault K.BadName path depth)) n m left e h = omega (arith, e, h)
takes_more (Some (fault K.NotText path depth)) n m left e h = omega (arith, e, h)
takes_more (Some (fault K.Budget path depth)) n m left e h = (omega (arith, e, h.0), h.1)

module _ {D C : Type 0} where
  -- an entry needs no further call of the directory
  pub entry_uses_answer : (at : Location) (x : ListItem) (e : TreeEntry) (names made : ℕ)
      (w new : Steps D C) (r : Step) → IsFound at x (Entry e)
      → UsesAnswer (nothing_asked names made) w r new
      → UsesAnswer (record { counts = item_counts x; taken = 0; names = names; made = made }) w r new
  entry_uses_answer at x e names made w new r f s = record {
    goes_on = s.goes_on;
    directory = s.directory;
    counts = plain_counted at x e (fault_counts (step_given r)) (items_lost (step_given r)) f s.counts;
    passed = s.passed;
    passes = s.passes;
    gives = s.gives;
    passes_alone = s.passes_alone;
    going = s.going;
    folders = s.folders;
    folders_passed = s.folders_passed;
    enters = s.enters;
    takes = s.takes;
    ends = s.ends;
    names = s.names;
    misplaced = s.misplaced;
  }

  fault_uses_answer : (at : Location) (asked : Asked) (w : Steps D C) (kind k : FaultKind)
      (path : String Global)
      (depth : ℕ) → IsFault at kind (Fault k path)
      → UsesAnswer asked w (Gives (Err (W.Fault kind path depth))) w
      → UsesAnswer asked w (Gives (Err (W.Fault k path depth))) w
  fault_uses_answer at asked w kind k path depth f s =
      subst (λ v. UsesAnswer asked w (Gives (Err (W.Fault v path depth))) w) (sym f.0) s

  -- a fault was counted
  pub found_uses_answer : (at : Location) (x : ListItem) (kind : FaultKind) (path : String Global) (depth : ℕ)
      (w : Steps D C) → IsFound at x (Fault kind path)
      → UsesAnswer (record {
        counts = item_counts x;
        taken = 0;
        names = names_left w;
        made = begins w + 1;
      }) w (Gives (Err (W.Fault kind path depth))) w
  found_uses_answer at (I.Name name k) kind path depth w f = elim f [
    | inl a ↦ absurd a.1
    | inr a ↦
        fault_uses_answer at _ w K.BadName kind path depth a.1
        (gives_uses_answer _ w (Err (W.Fault K.BadName path depth))
        (misnamed_counted name k (string_bytes path) depth a.0) refl refl (omega arith) (λ i. i) (λ i. i)
        (omega arith))
  ]
  found_uses_answer at I.Failed kind path depth w f =
      fault_uses_answer at _ w K.Listing kind path depth f
      (gives_uses_answer _ w (Err (W.Fault K.Listing path depth))
      failed_counted refl refl (omega arith) (λ i. i) (λ i. i) (omega arith))
  found_uses_answer at I.NotText kind path depth w f =
      fault_uses_answer at _ w K.NotText kind path depth f
      (gives_uses_answer _ w (Err (W.Fault K.NotText path depth))
      failed_counted refl refl (omega arith) (λ i. i) (λ i. i) (omega arith))

  -- an item was taken before
  pub taken_uses_answer : (counts : Tally) (names made : ℕ) (w : Steps D C) (levels : _) (budget : ℕ)
      (new : Steps D C) (r : Step) → let mid = record w { levels = levels; budget = budget } in
      allowance w ≡ allowance mid + 1 → 0 < allowance mid
      → UsesAnswer (record { counts = counts; taken = 0; names = names; made = made }) mid r new
      → UsesAnswer (record { counts = counts; taken = 1; names = names; made = made }) w r new
  taken_uses_answer counts names made w levels budget new r a some s = record {
    goes_on = s.goes_on;
    directory = s.directory;
    counts = s.counts;
    passed = s.passed;
    passes = s.passes;
    gives = s.gives;
    passes_alone = s.passes_alone;
    going = λ n i. s.going n some;
    folders = s.folders;
    folders_passed = s.folders_passed;
    enters = s.enters;
    takes = takes_more (step_given r) (allowance w) _ (allowance new) a s.takes;
    ends = s.ends;
    names = s.names;
    misplaced = s.misplaced;
  }
