-- A walk on its way.
use denote.Ref.{Bor}
use Rattle.std.specs.Prelude.{◌≡◌, ℕ, ◌+◌, ◌*◌, List, [], ◌∷◌, ◌++◌, length, map, Option, Some, None, Result}
use Rattle.std.specs.{Prelude.{Ok, Err}, Option.option_map}
use Rattle.wax_query.specs.declared.diagnostics.NoMemory.{NoMemory}
use Rattle.wax_token.specs.Syntax.{Tree}
use Rattle.wax_fold.specs.{declared.walk.entry.WalkEntry.WalkEntry, declared.walk.iterator.Walk.Walk}
use Rattle.wax_fold.specs.{Branches.Branch, Folded.listed_term}
use Rattle.wax_fold.specs.Order.{Entry, root_entry, children, breadth_first}

-- the tokens that are to come with all below them, and the token given last, unless what is below it was
-- cancelled
pub record Walking (A : Type 0) : Type 0 where
  pub rest : List (Entry A)
  pub current : Option (Entry A)

abbrev pub walk_entry : {A : Type 0} → WalkEntry (Bor (Tree A)) → Entry A
walk_entry e = record { token = e.token.now; position = e.position }

abbrev pub walking : {A S : Type 0} → Walk A S → Walking A
walking w = record {
  rest = map walk_entry (listed_term w.first ++ w.queue.items);
  current = option_map walk_entry w.current;
}

-- nothing was given yet
abbrev pub walk_begun : {A : Type 0} → Tree A → Walking A
walk_begun t = record { rest = root_entry t ∷ []; current = None }

module _ {A : Type 0} (chosen : Branch A → List ℕ) where
  abbrev pub below_current : Option (Entry A) → List (Entry A)
  below_current None = []
  below_current (Some e) = children chosen e

  -- the tokens that are to come with all below them
  abbrev pub roots : Walking A → List (Entry A)
  roots w = w.rest ++ below_current w.current

  -- all that is to come
  abbrev pub to_come : Walking A → List (Entry A)
  to_come w = breadth_first chosen (roots w)

  -- of that, what is below the current token
  abbrev pub below : Walking A → List (Entry A)
  below w = breadth_first chosen (below_current w.current)

  -- the first of what is to come is returned, and is the current token; nothing at the end, and nothing after
  -- memory ran out
  abbrev pub Nexts : Walking A → Option (Result (WalkEntry (Bor (Tree A))) NoMemory) → Walking A → Type 0
  Nexts old None new = (to_come old ≡ []) × (to_come new ≡ [])
  Nexts old (Some (Ok e)) new = (to_come old ≡ walk_entry e ∷ to_come new)
      × (roots old ≡ walk_entry e ∷ new.rest) × (new.current ≡ Some (walk_entry e))
  Nexts old (Some (Err f)) new = (new.rest ≡ []) × (new.current ≡ None)

  -- no more items come than this
  abbrev pub items_left : Walking A → ℕ
  items_left w = 2 * length (to_come w) + length (listed_term w.current)

-- what is below the current token is skipped
abbrev pub cancelled : {A : Type 0} → Walking A → Walking A
cancelled w = record { rest = w.rest; current = None }
