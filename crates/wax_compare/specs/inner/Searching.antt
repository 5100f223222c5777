-- Steps of two programs at once.
use Rattle.std.specs.Prelude.{◌≡◌, ◌≢◌, ◌<◌, ℕ, List, Option, Some, None, length, slice_index}
use Rattle.wax_program.specs.{declared.instruction.Instruction.Instruction, Machine.Accepts}
use Rattle.wax_compare.specs.{Comparison.IsWanted, Selected.IsSelected, declared.pairs.StatePair.StatePair}
use Rattle.wax_compare.specs.{declared.search.Search.Search, Cuts.StandsFor, inner.Going.IsAllowed}
use Rattle.wax_compare.specs.inner.Automata.{IsAutomatonOf, StatesStay, state_marks}
use Rattle.wax_compare.specs.{inner.Distinctions.IsUnmarked, inner.Reaching.{EndsBy, IsPairStep, Readings}}

abbrev pub readings : List Instruction → List Instruction → Search → Readings
readings code other s = record {
  task = record {
    code = code;
    other = other;
    criterion = s.first.criterion;
    other_criterion = s.second.criterion;
    wanted = s.wanted;
    texts = s.texts;
  };
  firsts = s.first.states.items;
  seconds = s.second.states.items;
}

-- the text is one that is looked for
abbrev pub WantedText : List Instruction → List Instruction → Search → List ℕ → Type 0
WantedText code other s = IsWanted s.wanted s.texts (IsSelected s.first.criterion (Accepts code 0))
    (IsSelected s.second.criterion (Accepts other 0))

pub record AreAutomataOf (code other : List Instruction) (s : Search) : Type 0 where
  pub one : IsAutomatonOf code s.letters.items s.first
  pub two : IsAutomatonOf other s.letters.items s.second

-- the same is looked for
pub record IsSameSearch (old new : Search) : Type 0 where
  pub wanted : new.wanted ≡ old.wanted
  pub texts : new.texts ≡ old.texts
  pub letters : new.letters ≡ old.letters
  pub first_criterion : new.first.criterion ≡ old.first.criterion
  pub second_criterion : new.second.criterion ≡ old.second.criterion

-- the states of both programs keep their numbers, their places and their marks
pub record KeepsBoth (old new : Search) : Type 0 where
  pub firsts : StatesStay old.first.states.items new.first.states.items
  pub seconds : StatesStay old.second.states.items new.second.states.items

-- the pair to which a letter leads: each character for which the letter stands leads there
pub record IsNextPair (r : Readings) (letter : ℕ) (from to : StatePair) : Type 0 where
  pub first : to.first < length r.firsts
  pub second : to.second < length r.seconds
  pub allowed : IsAllowed r.task.texts from.may_end letter
  pub steps : (c : ℕ) → StandsFor r.task.code r.task.other letter c → IsPairStep r from c to

-- such a pair, or none if each of these characters may not come next or ends the search
abbrev pub IsNextOrNone : Readings → ℕ → StatePair → Option StatePair → Type 0
IsNextOrNone r letter from None = (c : ℕ) → StandsFor r.task.code r.task.other letter c
    → IsAllowed r.task.texts from.may_end c → EndsBy r from c
IsNextOrNone r letter from (Some to) = IsNextPair r letter from to

-- the letter isn't `/`, and neither state marks it
pub record IsUndistinguished (s : Search) (pair : StatePair) (number : ℕ) : Type 0 where
  pub other : slice_index s.letters.items number ≢ 47
  pub first : IsUnmarked (state_marks s.first.states.items pair.first) number
  pub second : IsUnmarked (state_marks s.second.states.items pair.second) number
