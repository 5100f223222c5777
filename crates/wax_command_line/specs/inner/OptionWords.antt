-- How the options of a walk are read. Only private functions cite this file.
use Rattle.std.specs.Prelude.{◌≡◌, ◌≤◌, ◌+◌, ◌⊎◌, ⊤, ℕ, Bool, true, false, List, [], ◌∷◌, ◌++◌, length}
use Rattle.std.specs.Prelude.{Option, Some, None, String, string_bytes}
use Rattle.wax_command_line.specs.Commands.{WalkOption, count_lists, greatests_in, leasts_in}
use Rattle.wax_command_line.specs.declared.walk_words.OptionWords.{OptionWords}

-- the number, if there is one, as a list
abbrev pub all_in : Option ℕ → List ℕ
all_in None = []
all_in (Some n) = n ∷ []

abbrev pub one_if : Bool → ℕ
one_if true = 1
one_if false = 0

-- these are the bounds of the options, and whether one of them names an ignore list
pub record AreSaidBy (bounds : OptionWords) (options : List WalkOption) : Type 0 where
  pub least : leasts_in options ≡ all_in bounds.lower
  pub greatest : greatests_in options ≡ all_in bounds.upper
  pub lists : count_lists options ≡ one_if bounds.has_list

-- a least depth, a greatest depth or a list occurs twice
abbrev pub IsDoubled : List ℕ → List ℕ → ℕ → Type 0
IsDoubled leasts greatests lists = (2 ≤ length leasts) ⊎ (2 ≤ length greatests) ⊎ (2 ≤ lists)

abbrev pub AreDoubled : List WalkOption → Type 0
AreDoubled options = IsDoubled (leasts_in options) (greatests_in options) (count_lists options)

-- the bounds after one more option
pub record AreMore (bounds : OptionWords) (o : WalkOption) (more : OptionWords) : Type 0 where
  pub least : all_in more.lower ≡ all_in bounds.lower ++ leasts_in (o ∷ [])
  pub greatest : all_in more.upper ≡ all_in bounds.upper ++ greatests_in (o ∷ [])
  pub lists : one_if more.has_list ≡ one_if bounds.has_list + count_lists (o ∷ [])

-- the arguments are a word, and then the rest
abbrev pub IsFirstWord : {A : Type 0} → List (Option (String A)) → List ℕ → List (Option (String A)) → Type 0
IsFirstWord (Some w ∷ words) word rest = (string_bytes w ≡ word) × (rest ≡ words)
IsFirstWord _ word rest = ⊥

-- the first argument isn't text, or there is none
abbrev pub HasNoFirst : {A : Type 0} → List (Option (String A)) → Type 0
HasNoFirst (Some w ∷ words) = ⊥
HasNoFirst words = ⊤
