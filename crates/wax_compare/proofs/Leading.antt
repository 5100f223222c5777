-- Texts that lead to pairs.
use Rattle.std.proofs.Common.{◌≡◌, ◌↔◌, ℕ, Bool, true, IsTrue, List, [], ◌∷◌, ◌++◌, append-nil, append_assoc}
use Rattle.std.proofs.Common.{arith, refl, subst, sym}
use Rattle.std.specs.{Char.IsScalar, Str.all_scalars}
use Rattle.wax_program.specs.{Machine.Accepts, Threads.AnyAmong, declared.instruction.Instruction.Instruction}
use Rattle.wax_states.specs.States.{LeadOn}
use Rattle.wax_compare.specs.Limit.{AcceptsNoneFrom, BeginsAmong, EndsSearch, IsAtPlaces, LeadsToPair}
use Rattle.wax_compare.specs.{Limit.PairOfStates, Texts.IsAmongTexts, declared.pairs.StatePair.StatePair}
use Rattle.wax_compare.specs.{declared.wanted.Texts.Texts, declared.wanted.Texts.TheVariants.{All, Paths}}
use Rattle.wax_compare.specs.{inner.Automata.state_places, inner.Going.{GoesOnAmong, starts}}
use Rattle.wax_compare.specs.inner.Reaching.{EndsBy, HasTextToPair, IsLedBy, IsPairStep, OtherTakesNone}
use Rattle.wax_compare.specs.inner.Reaching.{Readings, TakesNone}
use Rattle.wax_compare.proofs.{Blocks.scalars_push, Selecting.{along, ends_along}}
use Rattle.wax_compare.proofs.Steps.{ends_here, kind_in, kind_out, may_end}

-- ---- a text with a character more

at_places_on : (code : List Instruction) (text places reached : List ℕ) (c : ℕ)
    → IsAtPlaces code text places → LeadOn code c places reached
    → IsAtPlaces code (text ++ c ∷ []) reached
at_places_on code text places reached c at on s =
    subst (λ z. Accepts code 0 z ↔ AnyAmong code reached s) (sym (append_assoc text (c ∷ []) s))
    (along (at (c ∷ s)) (on s))

pub led_along : (r : Readings) (text : List ℕ) (from to : StatePair) (c : ℕ) → IsLedBy r text from
    → IsPairStep r from c to → IsLedBy r (text ++ c ∷ []) to
led_along r text from to c led step = record {
  first = at_places_on r.task.code text (state_places r.firsts from.first) (state_places r.firsts to.first) c
      led.first step.first;
  second = at_places_on r.task.other text (state_places r.seconds from.second)
      (state_places r.seconds to.second) c led.second step.second;
  among = λ s. subst (λ z. GoesOnAmong r.task.texts (starts r.task.texts) z
      ↔ GoesOnAmong r.task.texts to.may_end s) (sym (append_assoc text (c ∷ []) s))
      (along (led.among (c ∷ s)) (step.among s));
}

pub text_along : (r : Readings) (from : StatePair) (c : ℕ) (to : StatePair) → IsScalar c
    → HasTextToPair r from → IsPairStep r from c to → HasTextToPair r to
text_along r from c to scalar led step =
    (led.0 ++ c ∷ [], scalars_push led.0 c led.1 scalar, led_along r led.0 from to c led.2 step)

-- where the search ends after a text and a character, it ends after each longer text
none_from : (code : List Instruction) (text places more : List ℕ) (c : ℕ) → IsAtPlaces code text places
    → ((s : List ℕ) → AnyAmong code places (c ∷ s) → ⊥) → AcceptsNoneFrom code (text ++ c ∷ more)
none_from code text places more c at none s h =
    none (more ++ s) ((at (c ∷ (more ++ s))).0 (subst (Accepts code 0) (append_assoc text (c ∷ more) s) h))

pub ends_from : (r : Readings) (text more : List ℕ) (p : StatePair) (c : ℕ) → IsLedBy r text p
    → EndsBy r p c
    → EndsSearch r.task.wanted (AcceptsNoneFrom r.task.code (text ++ c ∷ more))
    (AcceptsNoneFrom r.task.other (text ++ c ∷ more))
ends_from r text more p c led ends = ends_along r.task.wanted (TakesNone r p c) (OtherTakesNone r p c)
    (AcceptsNoneFrom r.task.code (text ++ c ∷ more)) (AcceptsNoneFrom r.task.other (text ++ c ∷ more))
    (none_from r.task.code text (state_places r.firsts p.first) more c led.first)
    (none_from r.task.other text (state_places r.seconds p.second) more c led.second) ends

-- ---- what a reader sees of a pair

abbrev pub seen : Readings → StatePair → PairOfStates
seen r p = record {
  first = state_places r.firsts p.first;
  second = state_places r.seconds p.second;
  may_end = p.may_end;
}

-- the flag says whether the text is one of these
flag_among : (r : Readings) (text : List ℕ) (p : StatePair) → IsLedBy r text p
    → IsTrue p.may_end ↔ IsAmongTexts r.task.texts text
flag_among r text p led = (
  (λ e. kind_out r.task.texts text (subst (GoesOnAmong r.task.texts (starts r.task.texts)) (append-nil text)
      ((led.among []).1 (ends_here r.task.texts p.may_end e)))),
  (λ h. may_end r.task.texts p.may_end ((led.among []).0
      (subst (GoesOnAmong r.task.texts (starts r.task.texts)) (sym (append-nil text))
      (kind_in r.task.texts text h)))),
)

pub leads_to : (r : Readings) (text : List ℕ) (p : StatePair) → IsLedBy r text p
    → LeadsToPair r.task.code r.task.other r.task.texts text (seen r p)
leads_to r text p led = record {
  first = led.first;
  second = led.second;
  may_end = flag_among r text p led;
}

-- a text that leads to a pair begins one of these texts
begins_so : (texts : Texts) (text : List ℕ) (begun : Bool) → all_scalars text ≡ true
    → ((s : List ℕ) → GoesOnAmong texts (starts texts) (text ++ s) ↔ GoesOnAmong texts begun s)
    → BeginsAmong texts text
begins_so All text begun scalars among = record { scalars = scalars; rest = []; among = tt }
begins_so Paths text begun scalars among = record {
  scalars = scalars;
  rest = 97 ∷ [];
  among = kind_out Paths (text ++ 97 ∷ [])
      ((among (97 ∷ [])).1 ((λ e. absurd (let no : ⊥ = omega (arith, e) in no)), refl));
}

pub begins_among : (r : Readings) (p : StatePair) (text : List ℕ) → all_scalars text ≡ true
    → IsLedBy r text p → BeginsAmong r.task.texts text
begins_among r p text scalars led = begins_so r.task.texts text p.may_end scalars led.among
