-- The names that two prefixes share.
use Rattle.std.specs.Prelude.{◌≡◌, ℕ, List, [], ◌++◌, Option, Some, None}
use Rattle.wax_tree.specs.Prefix.{from_last}
use Rattle.wax_exclude.specs.declared.prefixes.PrefixNames.{PrefixNames}

-- the names begin with these
abbrev pub IsBeginning : List (List ℕ) → List (List ℕ) → Type 0
IsBeginning front names = (rest : List (List ℕ)) × (names ≡ front ++ rest)

-- the longest names with which both begin
pub record IsCommonBeginning (names others common : List (List ℕ)) : Type 0 where
  pub first : IsBeginning common names
  pub second : IsBeginning common others
  pub greatest : (front : List (List ℕ)) → IsBeginning front names → IsBeginning front others
      → IsBeginning front common

-- both begin with no name
abbrev pub ShareNothing : List (List ℕ) → List (List ℕ) → Type 0
ShareNothing names others = (front : List (List ℕ)) → IsBeginning front names → IsBeginning front others
    → front ≡ []

-- what is shared until now, and then with one prefix more; `None` if only one of the two is rooted
abbrev pub NarrowsTo : Option PrefixNames → PrefixNames → Option PrefixNames → Type 0
NarrowsTo None own narrower = narrower ≡ Some own
NarrowsTo (Some shared) own None = ¬ (shared.is_rooted ≡ own.is_rooted)
NarrowsTo (Some shared) own (Some narrower) = (shared.is_rooted ≡ own.is_rooted)
    × (narrower.is_rooted ≡ shared.is_rooted) × IsCommonBeginning (from_last shared.names.items)
    (from_last own.names.items) (from_last narrower.names.items)
