-- How far a search goes, and what each result says of that.
use Rattle.std.specs.Prelude.{◌≡◌, ◌≢◌, ◌+◌, ◌*◌, ◌<◌, ◌≤◌, ◌⊎◌, ◌↔◌, ℕ, Bool, true, IsTrue, List, [], ◌∷◌}
use Rattle.std.specs.Prelude.{◌++◌, All, Contains, Some, chars, length, slice_get, string_bytes}
use Rattle.std.specs.{List.Sorted.IsStrictlyIncreasing, Str.all_scalars}
use Rattle.wax_program.specs.{Machine.Accepts, Threads.AnyAmong, declared.instruction.Instruction.Instruction}
use Rattle.wax_compare.specs.{Cuts.AreUnlike, Selected.SelectsTexts, Texts.IsAmongTexts}
use Rattle.wax_compare.specs.declared.wanted.Comparison.{Comparison}
use Rattle.wax_compare.specs.declared.wanted.Comparison.TheVariants.{Nothing, Text, Unknown}
use Rattle.wax_compare.specs.{declared.wanted.Texts.Texts, declared.wanted.Wanted.Wanted}
use Rattle.wax_compare.specs.declared.wanted.Wanted.TheVariants.{Both, FirstOnly, OneOnly}

-- ---- where a text leads

-- after the text the program is at these places: it accepts what follows from one of them on, or not at all
abbrev pub IsAtPlaces : List Instruction → List ℕ → List ℕ → Type 0
IsAtPlaces code text places = (s : List ℕ) → Accepts code 0 (text ++ s) ↔ AnyAmong code places s

-- a state of the program to which a text of characters leads: places of the program or its end, ascending
pub record IsReachedState (code : List Instruction) (places : List ℕ) : Type 0 where
  pub ascending : IsStrictlyIncreasing places
  pub within : (k : ℕ) → Contains places k → k ≤ length code
  pub text : List ℕ
  pub scalars : all_scalars text ≡ true
  pub at : IsAtPlaces code text places

-- a state of each of two programs, and whether a text may end there
pub record PairOfStates : Type 0 where
  pub first : List ℕ
  pub second : List ℕ
  pub may_end : Bool

-- the text has only characters, and one of these texts begins with it
pub record BeginsAmong (texts : Texts) (text : List ℕ) : Type 0 where
  pub scalars : all_scalars text ≡ true
  pub rest : List ℕ
  pub among : IsAmongTexts texts (text ++ rest)

-- the text leads to the pair, whose flag says whether the text is itself one of these texts
pub record LeadsToPair (code other : List Instruction) (texts : Texts) (text : List ℕ) (pair : PairOfStates)
    : Type 0 where
  pub first : IsAtPlaces code text pair.first
  pub second : IsAtPlaces other text pair.second
  pub may_end : IsTrue pair.may_end ↔ IsAmongTexts texts text

-- a pair of states to which such a text leads
pub record IsReachedPair (code other : List Instruction) (texts : Texts) (pair : PairOfStates) : Type 0 where
  pub first : IsReachedState code pair.first
  pub second : IsReachedState other pair.second
  pub text : List ℕ
  pub begins : BeginsAmong texts text
  pub leads : LeadsToPair code other texts text pair

-- ---- what a search reached

-- letters, states of both programs, and pairs of states
pub record Explored : Type 0 where
  pub letters : List ℕ
  pub firsts : List (List ℕ)
  pub seconds : List (List ℕ)
  pub pairs : List PairOfStates

-- no two items are equal
abbrev pub AllDiffer : {X : Type 0} → List X → Type 0
AllDiffer {X} xs = (i j : ℕ) → i < j → j < length xs → slice_get xs i ≢ slice_get xs j

-- the letters are unlike, and the states and pairs differ and are reached
pub record AreExplored (code other : List Instruction) (texts : Texts) (e : Explored) : Type 0 where
  pub unlike : AreUnlike code other e.letters
  pub firsts_differ : AllDiffer e.firsts
  pub firsts : All (IsReachedState code) e.firsts
  pub seconds_differ : AllDiffer e.seconds
  pub seconds : All (IsReachedState other) e.seconds
  pub pairs_differ : AllDiffer e.pairs
  pub pairs : All (IsReachedPair code other texts) e.pairs

-- how many bytes states take: 8 for each place, and 5 for each letter
abbrev pub bytes_of_states : ℕ → List (List ℕ) → ℕ
bytes_of_states letters [] = 0
bytes_of_states letters (places ∷ states) =
    8 * length places + 5 * letters + bytes_of_states letters states

abbrev pub bytes_of : Explored → ℕ
bytes_of e = bytes_of_states (length e.letters) e.firsts + bytes_of_states (length e.letters) e.seconds

-- states and pairs are more than `most` together, or states take more than 384 bytes for each of so many
abbrev pub IsMoreThan : ℕ → Explored → Type 0
IsMoreThan most e = (most < length e.firsts + length e.seconds + length e.pairs) ⊎ (384 * most < bytes_of e)

abbrev pub ReachesMore : List Instruction → List Instruction → Texts → ℕ → Type 0
ReachesMore code other texts most = (e : Explored) × AreExplored code other texts e × IsMoreThan most e

-- ---- where a search ends

-- the program accepts no text that begins with this one
abbrev pub AcceptsNoneFrom : List Instruction → List ℕ → Type 0
AcceptsNoneFrom code text = (s : List ℕ) → Accepts code 0 (text ++ s) → ⊥

-- of two facts, one for each program that it accepts nothing more, one shows that no text is wanted
abbrev pub EndsSearch : Wanted → Type 0 → Type 0 → Type 0
EndsSearch Both P Q = P ⊎ Q
EndsSearch FirstOnly P Q = P
EndsSearch OneOnly P Q = ⊥

abbrev pub LeadsToOneOf : List Instruction → List Instruction → Texts → List ℕ → List PairOfStates → Type 0
LeadsToOneOf code other texts text pairs = (i : ℕ) × (pair : PairOfStates) × (slice_get pairs i ≡ Some pair)
    × LeadsToPair code other texts text pair

-- each text that begins one of these texts leads to one of the pairs, unless the search ends before
abbrev pub AreAllPairs : List Instruction → List Instruction → Wanted → Texts → List PairOfStates → Type 0
AreAllPairs code other wanted texts pairs = (text : List ℕ) → BeginsAmong texts text
    → EndsSearch wanted (AcceptsNoneFrom code text) (AcceptsNoneFrom other text)
    ⊎ LeadsToOneOf code other texts text pairs

-- What a result says of the limit: `Nothing` took at most `most` pairs to show, a text has at most so many
-- characters, and `Unknown` comes only after more was reached than the limit allows.
abbrev pub KeepsLimit : List Instruction → List Instruction → Wanted → Texts → ℕ → Comparison → Type 0
KeepsLimit code other wanted texts most Nothing = (pairs : List PairOfStates) × (length pairs ≤ most)
    × AreAllPairs code other wanted texts pairs
KeepsLimit code other wanted texts most (Text t) = length (chars (string_bytes t)) ≤ most
KeepsLimit code other wanted texts most Unknown = ReachesMore code other texts most

-- this holds of programs that select these texts
abbrev pub KeepsLimitBy : (List ℕ → Type 0) → (List ℕ → Type 0) → Wanted → Texts → ℕ → Comparison → Type 0
KeepsLimitBy Selects OtherSelects wanted texts most found =
    (code : List Instruction) × (other : List Instruction) × SelectsTexts Selects code
    × SelectsTexts OtherSelects other × KeepsLimit code other wanted texts most found
