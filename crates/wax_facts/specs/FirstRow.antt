-- Which row of a table of rules decides.
use Rattle.std.specs.Prelude.{◌≡◌, true, false, List, ◌∷◌, ◌++◌, All, MatchOption}
use Rattle.wax_facts.specs.{Rules.first_that_holds, declared.rules.Row.Row}

-- the row is the first of the table whose rule is broken
pub record IsFirstBroken (rows : List Row) (row : Row) : Type 0 where
  pub before : List Row
  pub after : List Row
  pub split : rows ≡ before ++ row ∷ after
  pub is_broken : row.holds ≡ true
  pub none_before : All (λ earlier. earlier.holds ≡ false) before

-- of a table of rules, the first one that is broken is reported; if none is broken, none is
abbrev pub FirstBrokenDecides : Type 0
FirstBrokenDecides = (rows : List Row)
    → MatchOption (first_that_holds rows) (All (λ row. row.holds ≡ false) rows) (IsFirstBroken rows)
