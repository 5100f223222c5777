-- A step of both programs by a letter.
use Rattle.std.proofs.Common.{◌≡◌, ◌⊎◌, ◌↔◌, ◌==◌, ℕ, Bool, true, not, List, [], ◌∷◌, refl, subst, inl, inr}
use Rattle.std.proofs.{Common.{arith, false, sym, ◌∙◌}, lemmas.Bool.{eq-eqb, eqb-true, true≢false}}
use Rattle.std.specs.Str.{all_scalars}
use Rattle.wax_compare.proofs.{Blocks.same_bits, PlainPaths.{goes_plain, plain_goes}}
use Rattle.wax_compare.proofs.Selecting.{along, ends_along, never_wanted, none_selected_past, selected_as}
use Rattle.wax_compare.proofs.Selecting.{selected_past, turned, wanted_along, wanted_as}
use Rattle.wax_program.specs.{declared.instruction.Instruction.Instruction, Machine.Accepts, Threads.AnyAmong}
use Rattle.wax_states.specs.{Reached.AreReached, Alike.AreAlike}
use Rattle.wax_compare.specs.{declared.wanted.Texts.Texts, declared.wanted.Texts.TheVariants.{All, Paths}}
use Rattle.wax_compare.specs.{declared.pairs.StatePair.StatePair, Cuts.StandsFor}
use Rattle.wax_compare.specs.{Comparison.{AsWanted, IsWanted}, Selected.IsSelected, Texts.IsAmongTexts}
use Rattle.wax_compare.specs.inner.Going.{Goes, GoesOnAmong, GoesOnInNames, IsAllowed, Task, begun_after}
use Rattle.wax_compare.specs.{inner.Going.starts, inner.Automata.state_places, inner.Distinctions.LeadAlike}
use Rattle.wax_compare.specs.inner.Reaching.{EndsBy, GoesFrom, IsPairStep, OtherTakesNone, Readings}
use Rattle.wax_compare.specs.inner.Reaching.{TakesNone}
use Rattle.wax_states.proofs.Replaced.{alike_turned, replaced, same_alike}

-- no place accepts anything
pub none_among : (code : List Instruction) (s : List ℕ) → AnyAmong code [] s → ⊥
none_among code s h = let no : ⊥ = omega (arith, h.1.1) in no

module _ (code : List Instruction) (c r : ℕ) (like : AreAlike code c r) (places reached : List ℕ)
    (step : AreReached code r places [] reached) where
  onward : (s : List ℕ) → AnyAmong code places (c ∷ s) → AnyAmong code reached s
  onward s h = (step s).1 (inl (replaced code c r like places s h))

  from : (s : List ℕ) → AnyAmong code places (r ∷ s) ⊎ AnyAmong code [] s → AnyAmong code places (r ∷ s)
  from s (inl h) = h
  from s (inr h) = absurd (none_among code s h)

  back : (s : List ℕ) → AnyAmong code reached s → AnyAmong code places (r ∷ s)
  back s h = from s ((step s).0 h)

  back_at : (s : List ℕ) → AnyAmong code reached s → AnyAmong code places (c ∷ s)
  back_at s h = replaced code r c (alike_turned code c r like) places s (back s h)

  pub moved : (s : List ℕ) → AnyAmong code places (c ∷ s) ↔ AnyAmong code reached s
  moved s = (onward s, back_at s)

goes_on : (texts : Texts) (begun : Bool) (c r : ℕ) (s : List ℕ) → (c ≡ 47) ↔ (r ≡ 47)
    → ((c == 47) ≡ (r == 47)) → GoesOnAmong texts begun (c ∷ s)
    → IsAllowed texts begun r × GoesOnAmong texts (begun_after texts begun r) s
goes_on All begun c r s slash same h = (tt, h)
goes_on Paths begun c r s slash same h =
    ((λ e. h.0 (slash.1 e)), subst (λ b. GoesOnInNames (not b) s) same h.1)

-- a text that goes on with a character goes on with one that may come next
pub allowed_first : (texts : Texts) (begun : Bool) (c : ℕ) (s : List ℕ) → GoesOnAmong texts begun (c ∷ s)
    → IsAllowed texts begun c
allowed_first All begun c s h = tt
allowed_first Paths begun c s h = h.0

goes_back : (texts : Texts) (begun : Bool) (r : ℕ) (s : List ℕ) → IsAllowed texts begun r
    → GoesOnAmong texts (begun_after texts begun r) s → GoesOnAmong texts begun (r ∷ s)
goes_back All begun r s may h = h
goes_back Paths begun r s may h = (may, h)

pub same_slash : (c r : ℕ) → (c ≡ 47) ↔ (r ≡ 47) → (c == 47) ≡ (r == 47)
same_slash c r h = same_bits (c == 47) (r == 47) (λ e. eq-eqb r 47 (h.0 (eqb-true c 47 e)))
    (λ e. eq-eqb c 47 (h.1 (eqb-true r 47 e)))

-- with another character, if both are `/` or neither is
pub goes_instead : (texts : Texts) (begun : Bool) (c r : ℕ) (s : List ℕ) → (c ≡ 47) ↔ (r ≡ 47)
    → GoesOnAmong texts begun (c ∷ s) → GoesOnAmong texts begun (r ∷ s)
goes_instead texts begun c r s slash h =
    let kind = goes_on texts begun c r s slash (same_slash c r slash) h in
    goes_back texts begun r s kind.0 kind.1

allowed_instead : (texts : Texts) (begun : Bool) (c r : ℕ) → (c ≡ 47) ↔ (r ≡ 47) → IsAllowed texts begun c
    → IsAllowed texts begun r
allowed_instead All begun c r slash may = tt
allowed_instead Paths begun c r slash may = λ e. may (slash.1 e)

-- past a character for which a letter stands that may come next
pub goes_past : (texts : Texts) (begun : Bool) (c r : ℕ) (s : List ℕ) → (c ≡ 47) ↔ (r ≡ 47)
    → IsAllowed texts begun r
    → GoesOnAmong texts begun (c ∷ s) ↔ GoesOnAmong texts (begun_after texts begun r) s
goes_past texts begun c r s slash may = (
  (λ h. (goes_on texts begun c r s slash (same_slash c r slash) h).1),
  (λ h. goes_instead texts begun r c s (turned slash) (goes_back texts begun r s may h)),
)

-- ---- what each program selects of the texts that go on so
abbrev pub Selects : Task → List ℕ → List ℕ → Type 0
Selects t places s = IsSelected t.criterion (AnyAmong t.code places) s

abbrev pub OtherSelects : Task → List ℕ → List ℕ → Type 0
OtherSelects t others s = IsSelected t.other_criterion (AnyAmong t.other others) s

-- a step by a character
module _ (r : Readings) (from to : StatePair) (c : ℕ) (step : IsPairStep r from c to) where
  pub goes_along : (s : List ℕ) → GoesFrom r from (c ∷ s) → GoesFrom r to s
  goes_along s h =
      let t = r.task in
      let places = state_places r.firsts from.first in
      let others = state_places r.seconds from.second in
      let reached = state_places r.firsts to.first in
      let besides = state_places r.seconds to.second in
      record {
        decided = wanted_along t.wanted (Selects t places (c ∷ s)) (Selects t reached s)
            (OtherSelects t others (c ∷ s)) (OtherSelects t besides s)
            (selected_past t.criterion (AnyAmong t.code places) (AnyAmong t.code reached) c step.first s)
            (selected_past t.other_criterion (AnyAmong t.other others) (AnyAmong t.other besides) c
            step.second s)
            h.decided;
        among = (step.among s).0 h.among;
      }

  pub goes_back_along : (s : List ℕ) → GoesFrom r to s → GoesFrom r from (c ∷ s)
  goes_back_along s h =
      let t = r.task in
      let places = state_places r.firsts from.first in
      let others = state_places r.seconds from.second in
      let reached = state_places r.firsts to.first in
      let besides = state_places r.seconds to.second in
      record {
        decided = wanted_along t.wanted (Selects t reached s) (Selects t places (c ∷ s))
            (OtherSelects t besides s) (OtherSelects t others (c ∷ s))
            (turned (selected_past t.criterion (AnyAmong t.code places) (AnyAmong t.code reached) c
            step.first s))
            (turned (selected_past t.other_criterion (AnyAmong t.other others) (AnyAmong t.other besides) c
            step.second s))
            h.decided;
        among = (step.among s).1 h.among;
      }

-- where the search ends, no wanted text goes on
pub ends_wanted : (r : Readings) (p : StatePair) (c : ℕ) → EndsBy r p c → (s : List ℕ) → GoesFrom r p (c ∷ s)
    → ⊥
ends_wanted r p c ends s h =
    let t = r.task in
    let places = state_places r.firsts p.first in
    let others = state_places r.seconds p.second in
    never_wanted t.wanted (TakesNone r p c) (OtherTakesNone r p c) (Selects t places (c ∷ s))
    (OtherSelects t others (c ∷ s))
    (λ none. none_selected_past t.criterion (AnyAmong t.code places) c none s)
    (λ none. none_selected_past t.other_criterion (AnyAmong t.other others) c none s) ends h.decided

-- ---- characters by which both programs do the same from a pair
pub record AlikeFrom (r : Readings) (p : StatePair) (c d : ℕ) : Type 0 where
  pub first : LeadAlike r.task.code (state_places r.firsts p.first) c d
  pub second : LeadAlike r.task.other (state_places r.seconds p.second) c d
  pub slash : (c ≡ 47) ↔ (d ≡ 47)

pub alike_on : (r : Readings) (p : StatePair) (c d e : ℕ) → AlikeFrom r p c d → AlikeFrom r p d e
    → AlikeFrom r p c e
alike_on r p c d e f g = record {
  first = λ s. along (f.first s) (g.first s);
  second = λ s. along (f.second s) (g.second s);
  slash = along f.slash g.slash;
}

replaced_both : (code : List Instruction) (c letter : ℕ) → AreAlike code c letter → (places : List ℕ)
    → LeadAlike code places c letter
replaced_both code c letter like places s = (
  replaced code c letter like places s,
  replaced code letter c (alike_turned code c letter like) places s,
)

-- a character is like the letter that stands for it
pub stands_alike : (r : Readings) (p : StatePair) (letter c : ℕ) → StandsFor r.task.code r.task.other letter c
    → AlikeFrom r p c letter
stands_alike r p letter c stands = record {
  first = replaced_both r.task.code c letter stands.first (state_places r.firsts p.first);
  second = replaced_both r.task.other c letter stands.second (state_places r.seconds p.second);
  slash = stands.slash;
}

pub allowed_alike : (r : Readings) (p : StatePair) (c d : ℕ) → AlikeFrom r p c d
    → IsAllowed r.task.texts p.may_end c → IsAllowed r.task.texts p.may_end d
allowed_alike r p c d alike may = allowed_instead r.task.texts p.may_end c d alike.slash may

pub step_alike : (r : Readings) (p : StatePair) (c d : ℕ) (to : StatePair) → AlikeFrom r p c d
    → IsPairStep r p d to → IsPairStep r p c to
step_alike r p c d to alike step = record {
  first = λ s. along (alike.first s) (step.first s);
  second = λ s. along (alike.second s) (step.second s);
  among = λ s. along (
    goes_instead r.task.texts p.may_end c d s alike.slash,
    goes_instead r.task.texts p.may_end d c s (turned alike.slash),
  ) (step.among s);
}

pub ends_alike : (r : Readings) (p : StatePair) (c d : ℕ) → AlikeFrom r p c d → EndsBy r p d → EndsBy r p c
ends_alike r p c d alike ends = ends_along r.task.wanted (TakesNone r p d) (OtherTakesNone r p d)
    (TakesNone r p c) (OtherTakesNone r p c) (λ none s h. none s ((alike.first s).0 h))
    (λ none s h. none s ((alike.second s).0 h)) ends

-- ---- from the beginning on

pub kind_in : (texts : Texts) (s : List ℕ) → IsAmongTexts texts s → GoesOnAmong texts (starts texts) s
kind_in All s h = refl
kind_in Paths s h = plain_goes s h

pub kind_out : (texts : Texts) (s : List ℕ) → GoesOnAmong texts (starts texts) s → IsAmongTexts texts s
kind_out All s h = tt
kind_out Paths s h = goes_plain s h

module _ (t : Task) (places others : List ℕ)
    (begins : (s : List ℕ) → Accepts t.code 0 s ↔ AnyAmong t.code places s)
    (begins' : (s : List ℕ) → Accepts t.other 0 s ↔ AnyAmong t.other others s) where
  abbrev Wanted_here : List ℕ → Type 0
  Wanted_here s = IsWanted t.wanted t.texts (IsSelected t.criterion (Accepts t.code 0))
      (IsSelected t.other_criterion (Accepts t.other 0)) s

  decided_as : (s : List ℕ) → AsWanted t.wanted (IsSelected t.criterion (Accepts t.code 0) s)
      (IsSelected t.other_criterion (Accepts t.other 0) s)
      ↔ AsWanted t.wanted (Selects t places s) (OtherSelects t others s)
  decided_as s = wanted_as t.wanted (IsSelected t.criterion (Accepts t.code 0) s) (Selects t places s)
      (IsSelected t.other_criterion (Accepts t.other 0) s) (OtherSelects t others s)
      (selected_as t.criterion (Accepts t.code 0) (AnyAmong t.code places) begins s)
      (selected_as t.other_criterion (Accepts t.other 0) (AnyAmong t.other others) begins' s)

  pub wanted_goes : (s : List ℕ) → Wanted_here s → Goes t places others (starts t.texts) s
  wanted_goes s h = record {
    decided = (decided_as s).0 h.decided;
    among = kind_in t.texts s h.among;
  }

  pub goes_wanted : (s : List ℕ) → all_scalars s ≡ true → Goes t places others (starts t.texts) s
      → Wanted_here s
  goes_wanted s scalars h = record {
    scalars = scalars;
    among = kind_out t.texts s h.among;
    decided = (decided_as s).1 h.decided;
  }

-- a letter stands for itself
pub stands_itself : (code other : List Instruction) (c : ℕ) → StandsFor code other c c
stands_itself code other c = record {
  first = same_alike code c;
  second = same_alike other c;
  slash = ((λ e. e), (λ e. e));
}

-- a text that ends here is wanted, if it may end here
pub ends_here : (texts : Texts) (begun : Bool) → begun ≡ true → GoesOnAmong texts begun []
ends_here All begun e = e
ends_here Paths begun e = e

pub may_end : (texts : Texts) (begun : Bool) → GoesOnAmong texts begun [] → begun ≡ true
may_end All begun h = h
may_end Paths begun h = h

pub goes_here : (t : Task) (places others : List ℕ) (begun : Bool) (P Q : Type 0) → begun ≡ true
    → P ↔ Selects t places [] → Q ↔ OtherSelects t others []
    → AsWanted t.wanted P Q ↔ Goes t places others begun []
goes_here t places others begun P Q e f g =
    let same = wanted_as t.wanted P (Selects t places []) Q (OtherSelects t others []) f g in (
      (λ h. record { decided = same.0 h; among = ends_here t.texts begun e }),
      (λ h. same.1 h.decided),
    )

pub goes_nowhere : (t : Task) (places others : List ℕ) (begun : Bool) → begun ≡ false
    → Goes t places others begun [] → ⊥
goes_nowhere t places others begun e h = true≢false (sym (may_end t.texts begun h.among) ∙ e)
