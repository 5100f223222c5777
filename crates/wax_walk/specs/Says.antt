-- A closure whose result depends only on the entry.
use Rattle.std.specs.Prelude.{◌≡◌, Bool, List, [], ◌∷◌, Option, ⊤}
use denote.Ref.{Bor}
use Rattle.wax_walk.specs.{declared.entry.TreeEntry.TreeEntry, declared.iterator.EntryResidue.EntryResidue}
use Rattle.wax_walk.specs.{Course.AheadFiltered, Forest.Pending}
use Rattle.wax_walk.specs.{Given.{Facts, Mark, Given, ToComeFiltered, is_cut, mark_by}, Said.mark_of}
use Rattle.wax_walk.specs.{View.WalkView, Entries.facts_of}

-- a call: its argument and its result
abbrev pub Call : Type 0
Call = Bor TreeEntry × Option EntryResidue

module _ {F : Type 0} (step : F → Bor TreeEntry → Option EntryResidue → F → Type 0) where
  -- these calls lead from the state f to the state t
  abbrev pub Runs : F → List Call → F → Type 0
  Runs f [] t = f ≡ t
  Runs f (call ∷ calls) t = (u : F) × step f call.0 call.1 u × Runs u calls t

  abbrev pub Agrees : (Facts → Mark) → List Call → Type 0
  Agrees rule [] = ⊤
  Agrees rule (call ∷ calls) = (mark_of call.1 ≡ rule (facts_of call.0.now)) × Agrees rule calls

  -- in any sequence of calls, each result is what the rule decides about the entry
  abbrev pub SaysByRule : (Facts → Mark) → F → Type 0
  SaysByRule rule f = (calls : List Call) (t : F) → Runs f calls t → Agrees rule calls

  -- what is to come after the closure's filter
  abbrev pub ToComeByClosure : (Pending Given → Type 0) → F → Pending Given → Type 0
  ToComeByClosure inner f q = (rule : Facts → Mark) × SaysByRule rule f × ToComeFiltered inner rule q

  -- the mark is what each rule decides that the closure follows, and the item is cut by it
  abbrev pub IsMarkSaid : F → Given → Mark → Bool → Type 0
  IsMarkSaid f x m cut = ((rule : Facts → Mark) → SaysByRule rule f → m ≡ mark_by rule x)
      × (cut ≡ is_cut x m)

  -- the view of the filtered walk
  abbrev pub closure_view : {D : Type 0} → WalkView D → F → WalkView D
  closure_view inner f = record inner {
    to_come = ToComeByClosure inner.to_come f;
    may_come = AheadFiltered inner.may_come (IsMarkSaid f);
  }
