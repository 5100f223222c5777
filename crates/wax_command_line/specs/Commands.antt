-- The commands that arguments request.
use Rattle.std.specs.Prelude.{◌≡◌, ◌≤◌, ◌<◌, ◌^◌, ⊤, ℕ, List, [], ◌∷◌, Option, Some, String, string_bytes}
use Rattle.std.specs.{Prelude.{codes, length, slice_get, unwrap_or}, List.flat_map}
use Rattle.std.specs.Str.Parse.{IsNumeral, digits_value}

-- the arguments are the name of a command and an expression
abbrev pub Asks : {A : Type 0} → List ℕ → List (Option (String A)) → List ℕ → Type 0
Asks name (Some command ∷ Some word ∷ []) e =
    (string_bytes command ≡ name) × (e ≡ string_bytes word)
Asks name _ e = ⊥

-- `match`: the lines of the input that an expression matches
abbrev pub AsksMatch : {A : Type 0} → List (Option (String A)) → List ℕ → Type 0
AsksMatch words e = Asks (codes "match") words e

-- `captures`: the lines that an expression matches, with the captures of each
abbrev pub AsksCaptures : {A : Type 0} → List (Option (String A)) → List ℕ → Type 0
AsksCaptures words e = Asks (codes "captures") words e

-- `query`: what is known of an expression
abbrev pub AsksQuery : {A : Type 0} → List (Option (String A)) → List ℕ → Type 0
AsksQuery words e = Asks (codes "query") words e

-- ---- walks

-- an option of a walk: an expression whose matches are excluded, a file with an ignore list, a least depth,
-- or a greatest depth
pub data WalkOption : Type 0 where
  excluding : List ℕ → WalkOption
  ignoring : List ℕ → WalkOption
  at_least : ℕ → WalkOption
  at_most : ℕ → WalkOption

-- the ASCII digits of a number of at most 64 bits
abbrev pub IsNumber : List ℕ → ℕ → Type 0
IsNumber word n = IsNumeral 10 word × (n ≡ digits_value 10 word) × (n < 2 ^ 64)

-- a name and a value spell an option
abbrev pub IsOption : List ℕ → List ℕ → WalkOption → Type 0
IsOption name word (excluding e) = (name ≡ codes "not") × (e ≡ word)
IsOption name word (ignoring file) = (name ≡ codes "ignore") × (file ≡ word)
IsOption name word (at_least n) = (name ≡ codes "min") × IsNumber word n
IsOption name word (at_most n) = (name ≡ codes "max") × IsNumber word n

-- the arguments spell these options, two arguments each
abbrev pub SayEach : {A : Type 0} → List (Option (String A)) → List WalkOption → Type 0
SayEach [] [] = ⊤
SayEach (Some name ∷ Some word ∷ words) (o ∷ options) =
    IsOption (string_bytes name) (string_bytes word) o × SayEach words options
SayEach _ _ = ⊥

-- the least depth that an option sets, if it sets one
abbrev pub least_of : WalkOption → List ℕ
least_of (at_least n) = n ∷ []
least_of _ = []

-- the greatest depth that an option sets, if it sets one
abbrev pub greatest_of : WalkOption → List ℕ
greatest_of (at_most n) = n ∷ []
greatest_of _ = []

-- the file with an ignore list that an option names, if it names one
abbrev pub list_of : WalkOption → List (List ℕ)
list_of (ignoring file) = file ∷ []
list_of _ = []

abbrev pub leasts_in : List WalkOption → List ℕ
leasts_in options = flat_map least_of options

abbrev pub greatests_in : List WalkOption → List ℕ
greatests_in options = flat_map greatest_of options

-- how many of the options name an ignore list
abbrev pub count_lists : List WalkOption → ℕ
count_lists options = length (flat_map list_of options)

-- at most one least depth and one greatest depth, and the least is no greater than the greatest
abbrev pub AreBounds : List ℕ → List ℕ → Type 0
AreBounds [] [] = ⊤
AreBounds (m ∷ []) [] = ⊤
AreBounds [] (n ∷ []) = ⊤
AreBounds (m ∷ []) (n ∷ []) = m ≤ n
AreBounds _ _ = ⊥

-- the least depth, or 0 if there is no such option
abbrev pub least_in : List WalkOption → ℕ
least_in options = unwrap_or (slice_get (leasts_in options) 0) 0

-- the greatest depth, if there is such an option
abbrev pub greatest_in : List WalkOption → Option ℕ
greatest_in options = slice_get (greatests_in options) 0

-- where the walk starts, its expression, and its options
pub record WalkRequest : Type 0 where
  pub start : List ℕ
  pub expression : List ℕ
  pub options : List WalkOption

abbrev pub SaysWalk : {A : Type 0} → List (Option (String A)) → WalkRequest → Type 0
SaysWalk (Some command ∷ Some start ∷ Some expression ∷ options) asked =
    (string_bytes command ≡ codes "walk") × (asked.start ≡ string_bytes start)
    × (asked.expression ≡ string_bytes expression) × SayEach options asked.options
SaysWalk _ asked = ⊥

-- `walk`: what an expression matches below a start, at the requested depths, without what other expressions
-- match and what at most one list ignores
pub record AsksWalk {A : Type 0} (words : List (Option (String A))) (asked : WalkRequest) : Type 0 where
  pub says : SaysWalk words asked
  pub bounds : AreBounds (leasts_in asked.options) (greatests_in asked.options)
  pub lists : count_lists asked.options ≤ 1

-- ---- no command

-- the arguments request none of these commands
abbrev pub HasNoCommand : {A : Type 0} → List (Option (String A)) → Type 0
HasNoCommand words =
    ((e : List ℕ) → (AsksMatch words e → ⊥) × (AsksCaptures words e → ⊥) × (AsksQuery words e → ⊥))
    × ((asked : WalkRequest) → AsksWalk words asked → ⊥)
