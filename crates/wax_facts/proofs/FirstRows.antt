-- The first row of a table that holds.
use Rattle.std.proofs.Common.{◌≡◌, true, false, List, [], ◌∷◌, Option, Some, None, refl, ap, inl, inr, subst}
use Rattle.std.proofs.{Common.sym, lemmas.Bool.cases_Bool, lemmas.List.Elements.{All-cons, All-nil}}
use Rattle.std.specs.Prelude.{All, MatchOption, if◌then◌else◌}
use Rattle.wax_facts.specs.{FirstRow.{FirstBrokenDecides, IsFirstBroken}, Rules.first_that_holds}
use Rattle.wax_facts.specs.declared.rules.Row.{Row}

abbrev Holds : Row → Type 0
Holds row = row.holds ≡ false

-- what a table decides
abbrev Decides : List Row → Option Row → Type 0
Decides rows o = MatchOption o (All Holds rows) (IsFirstBroken rows)

later : (row : Row) (rows : List Row) (o : Option Row) → row.holds ≡ false → Decides rows o
    → Decides (row ∷ rows) o
later row rows None e h = All-cons Holds row rows e h
later row rows (Some first) e h = record {
  before = row ∷ h.before;
  after = h.after;
  split = ap (λ rs. row ∷ rs) h.split;
  is_broken = h.is_broken;
  none_before = All-cons Holds row h.before e h.none_before;
}

at_once : (row : Row) (rows : List Row) → row.holds ≡ true → IsFirstBroken (row ∷ rows) row
at_once row rows e = record {
  before = [];
  after = rows;
  split = refl;
  is_broken = e;
  none_before = All-nil Holds;
}

pub first_broken_decides : FirstBrokenDecides
first_broken_decides [] = All-nil Holds
first_broken_decides (row ∷ rows) = elim (cases_Bool row.holds) [
  | inl e ↦ subst (λ b. Decides (row ∷ rows) (if b then Some row else first_that_holds rows)) (sym e)
      (at_once row rows e)
  | inr e ↦ subst (λ b. Decides (row ∷ rows) (if b then Some row else first_that_holds rows)) (sym e)
      (later row rows (first_that_holds rows) e (first_broken_decides rows))
]
