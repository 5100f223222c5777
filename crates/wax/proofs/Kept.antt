-- What is kept of a glob's walk, whatever the directory shows, and where two `/` stand
-- side by side in the prefix.
use Rattle.std.proofs.Common.{◌≡◌, ◌∙◌, ℕ, ◌+◌, ◌≤◌, false, List, [], ◌∷◌, ◌++◌, filter, refl, ap, subst}
use Rattle.std.proofs.Common.{arith, inl, inr}
use Rattle.wax_directory.specs.{Counting.grown, Law.Law}
use Rattle.wax_walk.specs.Collected.{Yielded, whole, lacks_memory, over_budget, Took, all_fault_counts}
use Rattle.wax_walk.specs.{Collected.{all_items_lost, count_to_open}, Forest.{nothing, pending}}
use Rattle.wax_walk.specs.{Candidates.Candidate, Given.{Mark, Given, is_kept, no_memory}, Ruled.ruled_view}
use Rattle.wax_walk.specs.View.{CountsFaults, WalkView}
use Rattle.wax_walk.proofs.{Following.lacks_ruled, Seen.seen_itself}
use Rattle.wax_tree.proofs.{Answered.{lacks_given, lacks_only}, Reaching.errors_passed}
use Rattle.wax_tree.specs.{Begins.OnlyLacks, declared.steps.DepthRange.DepthRange}
use Rattle.wax_token.specs.{Reads.Span, Syntax.Tree}
use Rattle.wax_exclude.specs.Pruned.{Pruning}
use Rattle.wax.specs.GlobWalks.{BeginsBy, BeginsGlob, FailsAtFolders, GaveBy, KeepsNothing, none_kept}
use Rattle.wax.specs.GlobWalks.{memory_alone}

pub gave_within : (pruning : Pruning) {D C : Type 0} (t : Tree Span) (law : Law D C) (d : D) (start : List ℕ)
    (asked : DepthRange) (v : WalkView D) (rule : Candidate → Mark) (new : D) (xs : List Given)
    → BeginsBy pruning t law d start asked v → Took law (ruled_view v rule false) new xs
    → GaveBy pruning t law d asked new xs
gave_within pruning t law d start asked v rule new xs begins took = let over = begins.directory in record {
  counts =
      subst (λ w. CountsFaults (all_fault_counts xs) (all_items_lost xs) (law.tally w) (law.tally new)) over
      took.counts;
  taken = took.taken;
  counted = took.counted ∙ ap (λ w. grown took.taken (law.tally w).items) over;
  within = subst (λ n. took.taken ≤ n) begins.listings took.within;
  spent = λ path depth h. took.spent path depth h ∙ begins.listings;
  misplaced = λ path depth h b. omega (arith, took.misplaced path depth h, begins.names b);
  ends_there = took.ends_there;
  going = λ n. omega (arith, took.going n (omega (arith, begins.listings)), begins.listings);
  passed = took.passed;
  passes = λ e. took.passes (begins.yields_from ∙ e);
  refused = took.refused;
  refuses = took.refuses;
  begun = v.to_begin;
  begun_is = elim begins.begun [
    | inl e ↦ inl e
    | inr e ↦ inr (
      e.1,
      took.unasked (inr e.0) ∙ over,
      elim e.2 [
        | inl l ↦ inl (begins.depth, begins.depth_is, l)
        | inr t ↦ inr (lacks_given (ruled_view v rule false) took.told xs
            (lacks_ruled v (ruled_view v rule false) rule (seen_itself (ruled_view v rule false)) t)
            took.course)
      ],
    )
  ];
  gives = took.gives;
  folders = took.folders;
  folders_passed = took.folders_passed;
  opened = took.opened;
  opened_is = took.opened_is ∙ ap (λ w. grown took.opened (law.tally w).opened) over;
  ended_is = λ n.
      let as_many : took.ended ≡ took.opened = omega (arith, took.closes n, begins.none_listed) in
      took.ended_is ∙ ap (λ k. grown k (law.tally v.directory).ended) as_many
      ∙ ap (λ w. grown took.opened (law.tally w).ended) over;
  opens = λ n. (
    begins.depth,
    begins.depth_is,
    subst (λ m. took.opened ≡ took.folders + count_to_open m xs) begins.may_open
        (omega (arith, took.opens n, begins.none_to_open)),
  );
}

-- only the error came, if memory ran out before the walk began
pub memory_only : {D C : Type 0} {law : Law D C} (v : WalkView D) (rule : Candidate → Mark) (new : D)
    (xs : List Given) → OnlyLacks v → Took law (ruled_view v rule false) new xs → xs ≡ no_memory ∷ []
memory_only v rule new xs lacks took =
    let outer = ruled_view v rule false in
    lacks_only outer took.told xs (lacks_ruled v outer rule (seen_itself outer) lacks) took.ends_there
    took.course

pub fails_at_folders : {D C : Type 0} (t : Tree Span) (law : Law D C) (d : D) (start : List ℕ)
    (asked : DepthRange) (v : WalkView D) (rule : Candidate → Mark) (new : D) (xs : List Given)
    → BeginsGlob t law d start asked v → Took law (ruled_view v rule false) new xs
    → FailsAtFolders t start asked xs
fails_at_folders t law d start asked v rule new xs begins took b = (
  begins.depth,
  begins.depth_is,
  errors_passed asked.min _ b.names _ (ruled_view v rule false) xs (record {
    at = (begins.fails b).at;
    below = λ path depth i. (begins.fails b).below path depth i.1;
  }) begins.may_open took.of_folders,
)

front_empty : (xs ys : List Given) → xs ++ ys ≡ [] → xs ≡ []
front_empty [] ys e = refl
front_empty (x ∷ xs) ys e = cc

all_listed : (listed : List (List ℕ)) → listed ++ [] ≡ listed
all_listed [] = refl
all_listed (x ∷ listed) = ap (λ l. x ∷ l) (all_listed listed)

pub keeps_nothing : (tells : List (List ℕ) → Type 0) (budget : ℕ)
    (listed : List (List ℕ)) (xs ys : List Given)
    → Yielded tells (budget + 1) (pending nothing nothing listed 0) xs → ys ≡ filter is_kept xs
    → KeepsNothing tells listed ys
keeps_nothing tells budget listed xs ys (whole e told) same =
    none_kept (same ∙ ap (filter is_kept) e) (subst tells (all_listed listed) told)
keeps_nothing tells budget listed xs ys (lacks_memory (before, rest, e, all)) same =
    memory_alone
    (same ∙ ap (filter is_kept) (e ∙ ap (λ b. b ++ no_memory ∷ []) (front_empty before rest all)))
keeps_nothing tells budget listed xs ys (over_budget path depth few at cut) same = absurd (omega arith)
