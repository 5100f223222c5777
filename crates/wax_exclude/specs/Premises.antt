-- What a glob, its queries and what is shown must satisfy, so that the glob's walk yields what is wanted.
use Rattle.std.specs.Prelude.{◌≡◌, ℕ, ◌≤◌, ◌⊎◌, ◌++◌, Bool, false, ⊤, List, length, map, chars}
use Rattle.wax_directory.specs.Shown.{Items, end, leaf, folder, sealed, misnamed, unread, not_text, Shown}
use Rattle.wax_directory.specs.Shown.{a_folder, IsPlain, IsDistinct}
use Rattle.wax_token.specs.{Meaning.Means, Spelled.LiteralsHaveNoSlash, Syntax.Tree}
use Rattle.wax_tree.specs.{Begins.Origin, declared.steps.DepthRange.DepthRange, Prefix.ArePlain}
use Rattle.wax_query.specs.Below.{AreNames}
use Rattle.wax_exclude.specs.{Candidates.{base, text_at}, Wanted.Wanted}

-- each candidate that matches has at most `upper` names
abbrev pub BoundsNames : {A : Type 0} → Bool → Tree A → ℕ → Type 0
BoundsNames rooted t upper = (names : List (List ℕ)) → AreNames names
    → Means t false false (text_at rooted names) → length names ≤ upper

-- the names of each candidate that matches begin with these
abbrev pub BeginsWith : {A : Type 0} → Bool → Tree A → List (List ℕ) → Type 0
BeginsWith rooted t prefix = (names : List (List ℕ)) → AreNames names
    → Means t false false (text_at rooted names) → (rest : List (List ℕ)) × (names ≡ prefix ++ rest)

-- no candidate matches
abbrev pub IsUnmeant : {A : Type 0} → Bool → Tree A → Type 0
IsUnmeant rooted t = (names : List (List ℕ)) → AreNames names → Means t false false (text_at rooted names) → ⊥

-- A walk of the glob may begin at this origin and go down to `walked.max`, although `asked` was requested:
-- each candidate that matches begins with the names of the origin, and unless the two greatest depths are
-- equal, none has more than `walked.max` names.
pub record CanWalk {A : Type 0} (w : Wanted A) (asked walked : DepthRange) (origin : Origin) : Type 0 where
  pub spelled : LiteralsHaveNoSlash w.glob
  pub least : walked.min ≡ asked.min
  pub greatest : (walked.max ≡ asked.max)
      ⊎ ((walked.max ≤ asked.max) × BoundsNames w.rooted w.glob walked.max)
  pub candidate : origin.candidate ≡ base w.rooted
  pub begins : BeginsWith w.rooted w.glob (map chars origin.names)
  pub plain : ArePlain origin.names

-- the names of the entries, at any depth, are plain
abbrev pub ArePlainItems : Items → Type 0
ArePlainItems end = ⊤
ArePlainItems (leaf x link rest) = IsPlain x × ArePlainItems rest
ArePlainItems (folder x inner rest) = IsPlain x × ArePlainItems inner × ArePlainItems rest
ArePlainItems (sealed x rest) = IsPlain x × ArePlainItems rest
ArePlainItems (misnamed x kind rest) = ArePlainItems rest
ArePlainItems (unread rest) = ArePlainItems rest
ArePlainItems (not_text rest) = ArePlainItems rest

abbrev pub IsPlainShown : Shown → Type 0
IsPlainShown (a_folder l) = ArePlainItems l
IsPlainShown s = ⊤

-- as a lawful directory shows it: the names are plain, and those in each folder are distinct
pub record IsWellNamed (s : Shown) : Type 0 where
  pub plain : IsPlainShown s
  pub distinct : IsDistinct s
