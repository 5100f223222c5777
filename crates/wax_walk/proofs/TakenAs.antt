-- What a walk yielded, by another view of it.
use Rattle.std.proofs.Common.{◌≡◌, ◌∙◌, ◌+◌, ◌<◌, ◌≤◌, ◌++◌, ℕ, List, arith, ap, inl, inr, subst}
use Rattle.wax_directory.specs.{Counting.grown, History.Answer, Law.Law}
use Rattle.wax_walk.specs.Collected.{AreOfFolders, HasFolder, NoMemoryError, SpendsWithin, Took, TookCourse}
use Rattle.wax_walk.specs.{Collected.{Yielded, all_fault_counts, all_items_lost, count_to_open}, Course.Ahead}
use Rattle.wax_walk.specs.{Forest.Pending, Given.Given, View.{CountsFaults, IsSeenAs, MayFail, WalkView}}
use Rattle.wax_walk.specs.Collected as collected

-- of a walk that yielded these items, `this` says no more than `that` does
pub record IsTakenAs {D : Type 0} (this that : WalkView D) (xs : List Given) : Type 0 where
  pub to_come : (p : Pending Given) → this.to_come p → that.to_come p
  pub may_come : (a : Ahead) → that.may_come a → this.may_come a
  pub directory : that.directory ≡ this.directory
  pub listings_left : that.listings_left ≡ this.listings_left
  pub names_left : that.names_left ≡ this.names_left
  pub to_begin : NoMemoryError xs → that.to_begin ≡ this.to_begin
  pub listings_open : that.listings_open ≡ this.listings_open
  pub to_open : that.to_open ≡ this.to_open
  pub may_open : that.may_open ≡ this.may_open
  pub yields_from : that.yields_from ≡ this.yields_from
  pub may_fail : (path : List ℕ) (depth : ℕ) → MayFail that path depth → MayFail this path depth
  pub idles : this.is_idle → that.is_idle

pub taken_seen : {D : Type 0} (this that : WalkView D) (xs : List Given) → IsSeenAs this that
    → IsTakenAs this that xs
taken_seen this that xs seen = record {
  to_come = seen.to_come;
  may_come = seen.may_come;
  directory = seen.directory;
  listings_left = seen.listings_left;
  names_left = seen.names_left;
  to_begin = λ n. seen.to_begin;
  listings_open = seen.listings_open;
  to_open = seen.to_open;
  may_open = seen.may_open;
  yields_from = seen.yields_from;
  may_fail = λ path depth may. elim may [
    | inl f ↦ inl (seen.may_fail path depth f)
    | inr f ↦ inr (seen.may_fail_below path depth f)
  ];
  idles = seen.idles;
}

module _ {D C : Type 0} (law : Law D C) (this that : WalkView D) (new : D) (xs : List Given)
    (seen : IsTakenAs this that xs) where
  course_as : (told : List Answer) → TookCourse that told xs → TookCourse this told xs
  course_as told (collected.whole c t w e f) = collected.whole c (t.0, seen.may_come t.0 t.1, t.2) w e f
  course_as told (collected.cut_short c x t first e f s) =
      collected.cut_short c x (t.0, seen.may_come t.0 t.1, t.2) first e f s

  folders_as : AreOfFolders (MayFail that) that.may_open xs → AreOfFolders (MayFail this) this.may_open xs
  folders_as are before after x path depth e i =
      elim (are before after x path depth e i) [
        | inl may ↦ inl (seen.may_fail path depth may)
        | inr has ↦ inr (subst (λ most. HasFolder most path depth before) seen.may_open has)
      ]

  pub took_as : Took law that new xs → Took law this new xs
  took_as took = record {
    all = λ p h.
        subst (λ n. Yielded (law.tells new) n p xs) seen.listings_left (took.all p (seen.to_come p h));
    told = took.told;
    answered = took.answered ∙ ap (λ d. law.answered d ++ took.told) seen.directory;
    course = course_as took.told took.course;
    spends = subst (λ n. SpendsWithin n took.told xs) seen.listings_left took.spends;
    counts = subst (λ v. CountsFaults (all_fault_counts xs) (all_items_lost xs) (law.tally v) (law.tally new))
        seen.directory took.counts;
    taken = took.taken;
    counted = took.counted ∙ ap (λ v. grown took.taken (law.tally v).items) seen.directory;
    within = subst (λ n. took.taken ≤ n) seen.listings_left took.within;
    spent = λ path depth h. took.spent path depth h ∙ seen.listings_left;
    misplaced = λ path depth h. subst (λ n. 0 < n) seen.names_left (took.misplaced path depth h);
    ends_there = took.ends_there;
    of_folders = folders_as took.of_folders;
    unasked = λ i. took.unasked (seen.idles i) ∙ seen.directory;
    passed = took.passed;
    passes = λ e. took.passes (seen.yields_from ∙ e);
    refused = took.refused;
    refuses = took.refuses;
    gives = λ n. omega (arith, took.gives n, seen.to_begin n);
    going = λ n i. omega (
      arith,
      took.going n (omega (arith, i, seen.listings_left)),
      seen.listings_left,
    );
    folders = took.folders;
    folders_passed = took.folders_passed;
    opened = took.opened;
    opened_is = took.opened_is ∙ ap (λ v. grown took.opened (law.tally v).opened) seen.directory;
    ended = took.ended;
    ended_is = took.ended_is ∙ ap (λ v. grown took.ended (law.tally v).ended) seen.directory;
    opens = λ n. subst (λ m. took.opened ≡ this.to_open + (took.folders + count_to_open m xs)) seen.may_open
        (omega (arith, took.opens n, seen.to_open));
    closes = λ n. omega (arith, took.closes n, seen.listings_open);
  }
