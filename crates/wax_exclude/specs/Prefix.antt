-- The prefix of a glob, as names.
use Rattle.std.specs.{Prelude.{◌≡◌, ℕ, Bool, false, ◌⊎◌, List, [], ◌∷◌, ◌++◌, IsUtf8, chars}, List.Contains}
use Rattle.wax_directory.specs.Names.{is_rooted, names_in_path}
use Rattle.wax_facts.specs.Prefix.{Prefix}
use Rattle.wax_token.specs.Syntax.{Tree}
use Rattle.wax_exclude.specs.Candidates.{text_at}

-- the text has two `/` in a row
abbrev pub HasEmptyName : List ℕ → Type 0
HasEmptyName p = (x y : List ℕ) × (p ≡ x ++ 47 ∷ 47 ∷ y)

-- The names of a prefix, rooted or not: with a `/` between each two, and one before the first if it is
-- rooted, they are the prefix, except for a `/` at its end.
pub record SplitsInto (p : List ℕ) (rooted : Bool) (names : List (List ℕ)) : Type 0 where
  pub root : rooted ≡ is_rooted p
  pub parts : names ≡ names_in_path p
  pub whole : (p ≡ text_at rooted names) ⊎ (¬ (names ≡ []) × (p ≡ text_at rooted names ++ 47 ∷ []))

-- the prefix p, in characters, has no two `/` in a row and splits into these names, in bytes
pub record PrefixSplitsInto (p : List ℕ) (rooted : Bool) (names : List (List ℕ)) : Type 0 where
  pub text : List ℕ
  pub encoded : IsUtf8 text
  pub characters : chars text ≡ p
  pub unbroken : ¬ (HasEmptyName p)
  pub split : SplitsInto text rooted names

-- the prefix of the tree splits into these names, rooted or not
abbrev pub HasPrefixNames : {A : Type 0} → Tree A → Bool → List (List ℕ) → Type 0
HasPrefixNames t rooted names =
    (taken : ℕ) × (prefix : List ℕ) × Prefix t taken prefix × PrefixSplitsInto prefix rooted names

-- each prefix that splits into names begins with these, and all of them are rooted or none is
abbrev pub AreShared : {A : Type 0} → List (Tree A) → Bool → List (List ℕ) → Type 0
AreShared {A = A} ts rooted names = (t : Tree A) → Contains ts t → (r : Bool) (own : List (List ℕ))
    → HasPrefixNames t r own → (r ≡ rooted) × ((rest : List (List ℕ)) × (own ≡ names ++ rest))

-- The longest names that the prefixes share. There are none if some prefixes are rooted and others aren't, or
-- if none of them splits into names; the walk isn't rooted then.
pub data IsCommonPrefix {A : Type 0} (ts : List (Tree A)) (rooted : Bool) (names : List (List ℕ)) : Type 0
  where
    longest : AreShared ts rooted names
        → ((more : List (List ℕ)) → AreShared ts rooted (names ++ more) → more ≡ [])
        → IsCommonPrefix ts rooted names
    mixed : ((r : Bool) → ¬ (AreShared ts r [])) → rooted ≡ false → names ≡ []
        → IsCommonPrefix ts rooted names
    no_names : ((t : Tree A) → Contains ts t → (r : Bool) (own : List (List ℕ)) → ¬ (HasPrefixNames t r own))
        → rooted ≡ false → names ≡ [] → IsCommonPrefix ts rooted names
