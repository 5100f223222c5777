-- How the lines of an ignore list are removed that decide nothing.
use Rattle.std.specs.Prelude.{◌≡◌, ℕ, List, Some, filter, filter_map, not, slice_get, ⊤}
use Rattle.wax_exclude.specs.{Idle.is_known, Tidy.indexes_of, declared.idle.IdleLine.IdleLine}
use Rattle.wax_exclude.specs.declared.idle.IdleReason.{IdleReason}
use Rattle.wax_exclude.specs.declared.idle.IdleReason.TheVariants.{Covered, TakesNothingBack, Unknown}

-- the indexes of those of these lines of which it isn't known whether they decide
abbrev pub unknown_indexes : List IdleLine → List ℕ
unknown_indexes idle = indexes_of (filter (λ x. not (is_known x.reason)) idle)

-- the same reason, with the indexes that lines have in a list in place of those among the lines that are left
abbrev pub IsSameReason : List ℕ → IdleReason → IdleReason → Type 0
IsSameReason indexes (Covered covers) (Covered found) =
    found.items ≡ filter_map (slice_get indexes) covers.items
IsSameReason indexes TakesNothingBack TakesNothingBack = ⊤
IsSameReason indexes Unknown Unknown = ⊤
IsSameReason indexes reason other = ⊥

-- the same line, with the index that it has in the list in place of that among the lines that are left
pub record IsRenumbered (indexes : List ℕ) (line found : IdleLine) : Type 0 where
  pub index : slice_get indexes line.index ≡ Some found.index
  pub reason : IsSameReason indexes line.reason found.reason
