-- What cells say.
use Rattle.std.proofs.Common.{◌≡◌, ℕ, zero, suc, ◌+◌, ◌-◌, ◌<◌, ◌≤◌, inl, inr, List, Option, Some, None}
use Rattle.std.proofs.Common.{IfSome, MatchOption, length, map, replicate, slice_get, sym, ◌∙◌, ap, subst}
use Rattle.std.proofs.{Common.arith, lemmas.Option.slice_get_within}
use Rattle.wax_states.specs.{declared.table.State.State, declared.table.WideCell.WideCell}
use Rattle.wax_states.specs.States.{AreEmpty, IsDead, IsTransition, LeadsTo, TakesAll, places_at, places_in}
use Rattle.wax_states.proofs.Slots.{mapped_at}
use Rattle.wax_program.specs.declared.instruction.Instruction.{Instruction}

-- ---- where a cell leads
pub leads_on : (code : List Instruction) (states : List State) (place : List ℕ) (c cell : ℕ)
    → IsTransition code states place c cell
    → 3 ≤ cell → LeadsTo code states place c (cell - 3)
leads_on code states place c cell (inl e) h = absurd (omega (arith, e, h))
leads_on code states place c cell (inr (inl d)) h = absurd (let e : cell ≡ 1 = d.0 in omega (arith, e, h))
leads_on code states place c cell (inr (inr (inl t))) h =
    absurd (let e : cell ≡ 2 = t.0 in omega (arith, e, h))
leads_on code states place c cell (inr (inr (inr l))) h =
    let e : cell ≡ l.0 + 3 = l.1 in
    let same : l.0 ≡ cell - 3 = omega (arith, e) in
    subst (LeadsTo code states place c) same l.2

pub leads_nowhere : (code : List Instruction) (states : List State) (place : List ℕ) (c cell : ℕ)
    → IsTransition code states place c cell
    → cell ≡ 1 → IsDead code place c
leads_nowhere code states place c cell (inl e) h = absurd (omega (arith, e, h))
leads_nowhere code states place c cell (inr (inl d)) h = d.1
leads_nowhere code states place c cell (inr (inr (inl t))) h =
    absurd (let e : cell ≡ 2 = t.0 in omega (arith, e, h))
leads_nowhere code states place c cell (inr (inr (inr l))) h =
    absurd (let e : cell ≡ l.0 + 3 = l.1 in omega (arith, e, h))

pub leads_everywhere : (code : List Instruction) (states : List State) (place : List ℕ) (c cell : ℕ)
    → IsTransition code states place c cell
    → cell ≡ 2 → TakesAll code place c
leads_everywhere code states place c cell (inl e) h = absurd (omega (arith, e, h))
leads_everywhere code states place c cell (inr (inl d)) h =
    absurd (let e : cell ≡ 1 = d.0 in omega (arith, e, h))
leads_everywhere code states place c cell (inr (inr (inl t))) h = t.1
leads_everywhere code states place c cell (inr (inr (inr l))) h =
    absurd (let e : cell ≡ l.0 + 3 = l.1 in omega (arith, e, h))

-- ---- empty cells
some_cell : {w v : WideCell} → Some w ≡ Some v → w ≡ v
some_cell e = cc

no_cell : {w : WideCell} → None ≡ Some w → ⊥
no_cell e = cc

pub empty_replicate : (n : ℕ) (w : WideCell) → w.cell ≡ 0 → AreEmpty (replicate n w)
empty_replicate zero w e i v is = absurd (no_cell is)
empty_replicate (suc n) w e zero v is = sym (ap (λ z. z.cell) (some_cell is)) ∙ e
empty_replicate (suc n) w e (suc i) v is = empty_replicate n w e i v is

-- ---- a state that is found by its places

pub found_at : (states : List State) (places : List ℕ) (t : ℕ)
    → slice_get (map (λ s. s.places.items) states) t ≡ Some places
    → (t < length states) × (places_at states t ≡ places)
found_at states places t is = let found = mapped_at (λ s. s.places.items) states t places is in
    (slice_get_within states t found.0 found.1, ap places_in found.1 ∙ found.2)

pub some_found : (found : Option ℕ) (N : Type 0) (P Q : ℕ → Type 0) → ((t : ℕ) → P t → Q t)
    → MatchOption found N P → IfSome found Q
some_found (Some t) N P Q f h = f t h
some_found None N P Q f h = tt
