-- Worked texts and their lines.
use Rattle.std.proofs.Common.{◌≡◌, ℕ, true, false, List, [], ◌∷◌, ◌++◌, codes, refl}
use Rattle.wax_exclude.specs.Lines.{Written, written_lines}

-- a line feed, and a carriage return before one
abbrev feed : List ℕ
feed = 10 ∷ []

abbrev return_feed : List ℕ
return_feed = 13 ∷ 10 ∷ []

abbrev ignores_at : ℕ → List ℕ → Written
ignores_at number expression = record { number = number; ignores = true; expression = expression }

abbrev reincludes_at : ℕ → List ℕ → Written
reincludes_at number expression = record { number = number; ignores = false; expression = expression }

pub no_text : written_lines [] ≡ []
no_text = refl

-- skipped lines count
pub skipped_lines :
    written_lines (codes "# built" ++ feed ++ feed ++ codes "*.o" ++ feed ++ codes "!keep.o")
    ≡ ignores_at 3 (codes "*.o") ∷ reincludes_at 4 (codes "keep.o") ∷ []
skipped_lines = refl

-- one carriage return is dropped at a line's end, also at the end of the text, and before the line is read
pub returns_dropped :
    written_lines
    (codes "a" ++ return_feed ++ return_feed ++ codes "b" ++ 13 ∷ return_feed ++ codes "!" ++ 13 ∷ [])
    ≡ ignores_at 1 (codes "a") ∷ ignores_at 3 (codes "b" ++ 13 ∷ []) ∷ reincludes_at 4 [] ∷ []
returns_dropped = refl

-- `!` alone takes back the empty glob; a second `!` and a `#` after it are parts of
-- the glob, and so is a space
pub parts_of_globs :
    written_lines (codes "!" ++ feed ++ codes "!!a" ++ feed ++ codes "!#a" ++ feed ++ codes " #a"
    ++ feed ++ codes "(?-i)#a")
    ≡ reincludes_at 1 [] ∷ reincludes_at 2 (codes "!a") ∷ reincludes_at 3 (codes "#a")
    ∷ ignores_at 4 (codes " #a") ∷ ignores_at 5 (codes "(?-i)#a") ∷ []
parts_of_globs = refl
