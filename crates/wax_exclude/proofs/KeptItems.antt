-- What is kept of what a walk gave.
use Rattle.std.proofs.Common.{◌≡◌, ◌∙◌, ◌++◌, ◌∷◌, List, [], true, cond, filter, ap, refl, sym}
use Rattle.std.proofs.lemmas.List.Elements.{filter-append}
use Rattle.wax_walk.specs.Collected.{IsCutShort}
use Rattle.wax_walk.specs.Given.{kept, alone, with_tree, Given, entry, fault, no_memory, is_kept}
use Rattle.wax_exclude.specs.Wanted.{is_kept_entry}

-- some items and an error that is kept
pub kept_last : (xs before : List Given) (x : Given) → is_kept x ≡ true → xs ≡ before ++ x ∷ []
    → filter is_kept xs ≡ filter is_kept before ++ x ∷ []
kept_last xs before x e f =
    ap (filter is_kept) f ∙ (filter-append is_kept before (x ∷ [])
    ∙ ap (λ b. filter is_kept before ++ cond b (x ∷ []) []) e)

-- a beginning of the items and an error that is kept leave a beginning of what is kept, and that error
pub cut_kept : (all : List Given) (x : Given) (xs : List Given) → is_kept x ≡ true → IsCutShort all x xs
    → IsCutShort (filter is_kept all) x (filter is_kept xs)
cut_kept all x xs e h = (
  filter is_kept h.0,
  filter is_kept h.1,
  kept_last xs h.0 x e h.2,
  sym (filter-append is_kept h.0 h.1) ∙ ap (filter is_kept) h.3,
)

pub kept_twice : (xs : List Given) → filter is_kept (filter is_kept xs) ≡ filter is_kept xs
kept_twice [] = refl
kept_twice (entry kept f ∷ xs) = ap (λ ys. entry kept f ∷ ys) (kept_twice xs)
kept_twice (entry alone f ∷ xs) = kept_twice xs
kept_twice (entry with_tree f ∷ xs) = kept_twice xs
kept_twice (fault kind path depth ∷ xs) = ap (λ ys. fault kind path depth ∷ ys) (kept_twice xs)
kept_twice (no_memory ∷ xs) = ap (λ ys. no_memory ∷ ys) (kept_twice xs)

pub kept_entries : (xs : List Given) → filter is_kept_entry (filter is_kept xs) ≡ filter is_kept_entry xs
kept_entries [] = refl
kept_entries (entry kept f ∷ xs) = ap (λ ys. entry kept f ∷ ys) (kept_entries xs)
kept_entries (entry alone f ∷ xs) = kept_entries xs
kept_entries (entry with_tree f ∷ xs) = kept_entries xs
kept_entries (fault kind path depth ∷ xs) = kept_entries xs
kept_entries (no_memory ∷ xs) = kept_entries xs
