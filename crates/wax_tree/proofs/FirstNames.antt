-- The first name of a path.
use Rattle.std.proofs.Common.{◌≡◌, ◌≢◌, ℕ, ◌+◌, ◌<◌, false, cond, ◌==◌, List, [], ◌∷◌, length, get_or, refl}
use Rattle.std.proofs.{Common.{sym, ap, ◌∙◌, arith}, lemmas.Bool.ne_eqb, lemmas.Grind.common_steps}
use Rattle.std.proofs.lemmas.List.Splits.{slice_split_first}
use Rattle.std.proofs.lemmas.Str.Pattern.{IsSplitOnceResult, split_once_first, split_parts}
use Rattle.std.specs.{Prelude.{Option, Some, None, MatchOption, filter}, List.{slice_split, after_first}}
use denote.Ref.{Bor}
use Rattle.wax_directory.specs.Names.{is_some_name, names_in_path}

abbrev pub Slashless : List ℕ → Type 0
Slashless s = (i : ℕ) → i < length s → get_or s i 0 ≢ 47

slashless_tail : (c : ℕ) (s : List ℕ) → Slashless (c ∷ s) → Slashless s
slashless_tail c s h i l = let k = h (i + 1) (grind (arith, common_steps)) in grind (arith, common_steps)

unsplit : (s : List ℕ) → Slashless s → slice_split (λ c. c == 47) s ≡ s ∷ []
unsplit [] h = refl
unsplit (c ∷ s) h =
    let differs : (c == 47) ≡ false = ne_eqb c 47 (h 0 (grind (arith, common_steps))) in
    rw (differs, unsplit s (slashless_tail c s h))

-- what is before the first `/` is a name, if it isn't empty
pub split_names : (path : List ℕ) (r : Option (Bor (List ℕ) × Bor (List ℕ))) → IsSplitOnceResult 47 path r
    → MatchOption r (names_in_path path ≡ cond (is_some_name path) (path ∷ []) [])
    (λ x. names_in_path path
    ≡ cond (is_some_name x.0.now) (x.0.now ∷ names_in_path x.1.now) (names_in_path x.1.now))
split_names path None h = ap (filter is_some_name) (unsplit path (split_parts 47 path None h (omega arith)))
split_names path (Some x) h =
    let first = split_once_first 47 path (Some x) h (omega arith) in
    ap (filter is_some_name) (slice_split_first (λ c. c == 47) path 0 first.0)
    ∙ (ap (λ s. filter is_some_name (s ∷ slice_split (λ c. c == 47) (after_first (λ c. c == 47) path)))
    (sym first.1)
    ∙ ap (λ s. filter is_some_name (x.0.now ∷ slice_split (λ c. c == 47) s)) (sym first.2))
