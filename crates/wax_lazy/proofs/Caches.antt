-- Caches whose states change.
use Rattle.std.proofs.Common.{◌≡◌, ◌≤◌, ◌<◌, ◌↔◌, ℕ, Bool, IsTrue, ◌+◌, ◌*◌, slice_get, set, List, [], ◌∷◌}
use Rattle.std.proofs.Common.{◌++◌, ◌⊎◌, inl, inr, Option, Some, None, IfSome, Result, Ok, Err, IfOk, OnErr}
use Rattle.std.proofs.Common.{length, sym, ◌∙◌, ap, subst, arith, length-append, replicate}
use Rattle.std.proofs.lemmas.List.{length-replicate}
use Rattle.wax_lazy.specs.{Cost.most_kept, declared.cache.Cache.Cache}
use Rattle.wax_lazy.specs.inner.Cached.{AreParted, GrowsBy, IsAdded, IsCacheOf, IsCleared, IsInterned}
use Rattle.wax_lazy.specs.{inner.Cached.{IsRestarted, IsSameMaker, KeepsCache}, inner.Rows.AreRows}
use Rattle.wax_lazy.specs.inner.Table.{AreNumbersOf, BeginsTexts, IsFailureState, IsState, IsTable}
use Rattle.wax_lazy.specs.inner.Table.{AreWideCells, KeepsStates}
use Rattle.wax_states.specs.{declared.table.State.State, Alike.AreLettersOf}
use Rattle.wax_states.specs.States.{IsSettled, HasState, IsTransition, IsWrittenWide, AreEmpty, places_at}
use Rattle.wax_states.specs.States.{places_in}
use Rattle.std.specs.Global.{Vec}
use Rattle.wax_lazy.proofs.RowCells.{rows_empty, rows_keep}
use Rattle.wax_lazy.proofs.Tables.{begins_keeps, keeps_append, keeps_more, settled_keeps, slice_get_end}
use Rattle.wax_lazy.proofs.Tables.{table_empty, table_filled, table_push, table_settled, wide_empty}
use Rattle.wax_lazy.proofs.Tables.{wide_keeps, wide_written}
use Rattle.wax_program.specs.{declared.instruction.Instruction.Instruction, Threads.AnyAmong}

pub first_keeps : (code : List Instruction) (old new : List State) (start : ℕ) (first : Option ℕ)
    → KeepsStates old new
    → IfSome first (BeginsTexts code old start) → IfSome first (BeginsTexts code new start)
first_keeps code old new start (Some at) keeps b = begins_keeps old new keeps code start at b
first_keeps code old new start None keeps b = tt

no_first : (code : List Instruction) (states : List State) (start : ℕ) (first : Option ℕ) → first ≡ None
    → IfSome first (BeginsTexts code states start)
no_first code states start first e = subst (λ f. IfSome f (BeginsTexts code states start)) (sym e) tt

module _ (code : List Instruction) (old new : Cache) (held : IsCacheOf code old) where
  size_same : IsSameMaker old new → new.stepper ≡ length code
  size_same m = m.stepper ∙ held.size

  start_same : IsSameMaker old new → new.start ≤ length code
  start_same m = subst (λ n. n ≤ length code) (sym m.start) held.start

  letters_same : IsSameMaker old new → IfSome new.letters (AreLettersOf code)
  letters_same m = subst (λ z. IfSome z (AreLettersOf code)) (sym m.letters) held.letters

  pub cache_cleared : IsCleared old new → IsCacheOf code new
  cache_cleared c = record {
    size = size_same c.maker;
    start = start_same c.maker;
    table = subst (λ z. IsTable code z new.table.cells.items) (sym c.states)
        (subst (IsTable code []) (sym c.cells) (table_empty code));
    wide = wide_empty code new.table.states.items new.table.wide_cells.items c.wide;
    rows = rows_empty code new.table.states.items new.rows.keys.items new.rows.cells.items
        c.row_keys c.row_cells;
    letters = letters_same c.maker;
    first = no_first code new.table.states.items new.start new.first c.first;
  }

  alone : (s left : State) → IsState code old.table.states.items s → left.places ≡ s.places
      → left.failure ≡ None → left.accepts ≡ s.accepts
      → left.numbers ≡ None → IsState code [] left
  alone s left good places failure accepts numbers = record {
    ends = subst (λ z. IfSome left.accepts (λ b. IsTrue b ↔ AnyAmong code z.items [])) (sym places)
        (subst (λ o. IfSome o (λ b. IsTrue b ↔ AnyAmong code s.places.items [])) (sym accepts) good.ends);
    numbers = subst (λ o. IfSome o (λ v. AreNumbersOf code left.places.items v.items)) (sym numbers) tt;
    failure =
        subst (λ o. IfSome o (IsFailureState code [] left.places.items left.own.items)) (sym failure) tt;
  }

  pub cache_restarted : (s : State) → IsState code old.table.states.items s
      → IsRestarted old new s → IsCacheOf code new
  cache_restarted s good c = record {
    size = size_same c.maker;
    start = start_same c.maker;
    table = subst (λ z. IsTable code z new.table.cells.items) (sym c.states)
        (subst (IsTable code (c.left ∷ [])) (sym c.cells) (table_push code [] [] (table_empty code) c.left
        (alone s c.left good c.places c.failure c.accepts c.numbers) (omega arith)));
    wide = wide_empty code new.table.states.items new.table.wide_cells.items c.wide;
    rows = rows_empty code new.table.states.items new.rows.keys.items new.rows.cells.items
        c.row_keys c.row_cells;
    letters = letters_same c.maker;
    first = no_first code new.table.states.items new.start new.first c.first;
  }

  pub cache_added : (s : State) (number : ℕ) → length old.table.states.items < most_kept
      → IsState code old.table.states.items s → IsAdded old new s number → IsCacheOf code new
  cache_added s number few good a = record {
    size = size_same a.maker;
    start = start_same a.maker;
    table = subst (λ z. IsTable code z new.table.cells.items) (sym a.states)
        (subst (IsTable code (old.table.states.items ++ s ∷ [])) (sym a.cells)
        (table_push code old.table.states.items old.table.cells.items held.table s good few));
    wide = subst (λ z. AreWideCells code new.table.states.items z.items) (sym a.wide)
        (subst (λ z. AreWideCells code z old.table.wide_cells.items) (sym a.states)
        (wide_keeps code old.table.states.items (old.table.states.items ++ s ∷ []) old.table.wide_cells.items
        (keeps_append old.table.states.items (s ∷ [])) held.wide));
    rows = subst (λ z. AreRows code new.table.states.items z.keys.items z.cells.items) (sym a.rows)
        (subst (λ z. AreRows code z old.rows.keys.items old.rows.cells.items) (sym a.states)
        (rows_keep code old.table.states.items (old.table.states.items ++ s ∷ []) (keeps_append
        old.table.states.items (s ∷ [])) old.rows.keys.items old.rows.cells.items held.rows));
    letters = letters_same a.maker;
    first = subst (λ z. IfSome z (BeginsTexts code new.table.states.items new.start)) (sym a.first)
        (subst (λ z. IfSome old.first (BeginsTexts code z new.start)) (sym a.states)
        (subst (λ z. IfSome old.first (BeginsTexts code (old.table.states.items ++ s ∷ []) z))
        (sym a.maker.start)
        (first_keeps code old.table.states.items (old.table.states.items ++ s ∷ []) old.start old.first
        (keeps_append old.table.states.items (s ∷ [])) held.first)));
  }

  pub cache_kept : {E : Type 0} (s : State) (result : Result ℕ E)
      → length old.table.states.items < most_kept → IsState code old.table.states.items s
      → IfOk result (IsAdded old new s) → OnErr result (IsCleared old new)
      → KeepsCache code old new
  cache_kept s (Ok number) few good ok err =
      record { cache = cache_added s number few good ok; start = ok.maker.start }
  cache_kept s (Err e) few good ok err = record { cache = cache_cleared err; start = err.maker.start }

module _ (old new : Cache) (s : State) (number : ℕ) (a : IsAdded old new s number) where
  pub added_keeps : KeepsStates old.table.states.items new.table.states.items
  added_keeps =
      subst (KeepsStates old.table.states.items) (sym a.states) (keeps_append old.table.states.items (s ∷ []))

  pub added_places : places_at new.table.states.items number ≡ s.places.items
  added_places =
      ap (places_at new.table.states.items) a.numbered
      ∙ ap (λ z. places_in (slice_get z (length old.table.states.items))) a.states
      ∙ ap places_in (slice_get_end old.table.states.items s)

  pub added_within : number < length new.table.states.items
  added_within = omega (arith, a.numbered, ap length a.states, length-append old.table.states.items (s ∷ []))

  pub added_grows : GrowsBy 1 old new
  added_grows = record {
    kept = added_keeps;
    few = omega (arith, ap length a.states, length-append old.table.states.items (s ∷ []));
  }

  pub added_room : length old.table.cells.items ≡ 128 * length old.table.states.items
      → length new.table.cells.items ≡ 128 * length new.table.states.items
  added_room room = omega (
    arith,
    room,
    ap length a.states,
    length-append old.table.states.items (s ∷ []),
    ap length a.cells,
    length-append old.table.cells.items (replicate 128 0),
    length-replicate {A = ℕ} 128 0,
  )

pub cache_filled : (code : List Instruction) (old new : Cache) (at c cell : ℕ) → IsCacheOf code old
    → HasState old.table.states.items at
    → IsTransition code old.table.states.items (places_at old.table.states.items at) c cell
    → new.stepper ≡ length code → new.start ≡ old.start → new.first ≡ old.first
    → new.table.states ≡ old.table.states
    → (c < 128 → new.table.cells.items ≡ set old.table.cells.items (128 * at + c) cell)
    → (128 ≤ c → new.table.cells.items ≡ old.table.cells.items)
    → IsWrittenWide old.table.wide_cells.items new.table.wide_cells.items at c cell
    → new.rows ≡ old.rows → IfSome new.letters (AreLettersOf code) → IsCacheOf code new
cache_filled code old new at c cell held p says sized start first states filled unfilled written rows
    letters =
    record {
      size = sized;
      letters = letters;
      start = subst (λ n. n ≤ length code) (sym start) held.start;
      table = subst (λ z. IsTable code z.items new.table.cells.items) (sym states)
          (table_filled code old.table.states.items old.table.cells.items new.table.cells.items at c cell
          held.table p says filled unfilled);
      wide = subst (λ z. AreWideCells code z.items new.table.wide_cells.items) (sym states)
          (wide_written code old.table.states.items old.table.wide_cells.items new.table.wide_cells.items at c
          cell held.wide p says written);
      rows = subst (λ z. AreRows code z.items new.rows.keys.items new.rows.cells.items) (sym states)
          (subst (λ z. AreRows code old.table.states.items z.keys.items z.cells.items) (sym rows) held.rows);
      first = subst (λ z. IfSome z (BeginsTexts code new.table.states.items new.start)) (sym first)
          (subst (λ z. IfSome old.first (BeginsTexts code z.items new.start)) (sym states)
          (subst (λ n. IfSome old.first (BeginsTexts code old.table.states.items n)) (sym start) held.first));
    }

module _ (old new : Cache) (s : State) (r : IsRestarted old new s) where
  pub restarted_one : length new.table.states.items ≡ 1
  restarted_one = ap length r.states

  pub restarted_place : HasState new.table.states.items 0
  restarted_place = let one = restarted_one in omega (arith, one)

  pub restarted_places : (t : ℕ) → slice_get old.table.states.items t ≡ Some s
      → places_at new.table.states.items 0 ≡ places_at old.table.states.items t
  restarted_places t e = ap (λ z. places_in (slice_get z 0)) r.states ∙ ap (λ z. z.items) r.places
      ∙ ap places_in (sym e)

pub cache_settled : (code : List Instruction) (old new : Cache) (t : ℕ) (accepts : State → Option Bool)
    (numbers : State → Option (Vec ℕ)) → IsCacheOf code old
    → (settled : IsSettled old.table.states.items new.table.states.items t accepts numbers)
    → IfSome (accepts settled.0) (λ b. IsTrue b ↔ AnyAmong code settled.0.places.items [])
    → IfSome (numbers settled.0) (λ v. AreNumbersOf code settled.0.places.items v.items)
    → new.stepper ≡ length code → new.start ≡ old.start → new.first ≡ old.first
    → new.table.cells ≡ old.table.cells → new.table.wide_cells ≡ old.table.wide_cells
    → new.rows ≡ old.rows → IfSome new.letters (AreLettersOf code) → IsCacheOf code new
cache_settled code old new t accepts numbers held settled ends are sized start first cells wide rows letters =
    record {
      size = sized;
      letters = letters;
      start = subst (λ n. n ≤ length code) (sym start) held.start;
      table = subst (λ z. IsTable code new.table.states.items z.items) (sym cells)
          (table_settled old.table.states.items new.table.states.items t accepts numbers settled code
          old.table.cells.items held.table ends are);
      wide = subst (λ z. AreWideCells code new.table.states.items z.items) (sym wide)
          (wide_keeps code old.table.states.items new.table.states.items old.table.wide_cells.items
          (settled_keeps old.table.states.items new.table.states.items t accepts numbers settled) held.wide);
      rows = subst (λ z. AreRows code new.table.states.items z.keys.items z.cells.items) (sym rows)
          (rows_keep code old.table.states.items new.table.states.items
          (settled_keeps old.table.states.items new.table.states.items t accepts numbers settled)
          old.rows.keys.items old.rows.cells.items held.rows);
      first = subst (λ z. IfSome z (BeginsTexts code new.table.states.items new.start)) (sym first)
          (subst (λ n. IfSome old.first (BeginsTexts code new.table.states.items n)) (sym start)
          (first_keeps code old.table.states.items new.table.states.items old.start old.first
          (settled_keeps old.table.states.items new.table.states.items t accepts numbers settled)
          held.first));
    }

-- a text's end is remembered, and what was known of numbers stays
pub cache_accepts : (code : List Instruction) (old new : Cache) (t : ℕ) (b : Bool) → IsCacheOf code old
    → IsSettled old.table.states.items new.table.states.items t (λ _. Some b) (λ s. s.numbers)
    → (IsTrue b ↔ AnyAmong code (places_at old.table.states.items t) [])
    → new.stepper ≡ length code → new.start ≡ old.start → new.first ≡ old.first
    → new.table.cells ≡ old.table.cells → new.table.wide_cells ≡ old.table.wide_cells
    → new.rows ≡ old.rows → IfSome new.letters (AreLettersOf code) → IsCacheOf code new
cache_accepts code old new t b held settled ends =
    cache_settled code old new t (λ _. Some b) (λ s. s.numbers) held settled
    (subst (λ z. IsTrue b ↔ AnyAmong code z []) (ap places_in settled.1) ends)
    (held.table.rows t settled.0 settled.1).numbers

-- the numbers are remembered, and what was known of the end stays
pub cache_numbers : (code : List Instruction) (old new : Cache) (t : ℕ) (v : Vec ℕ) → IsCacheOf code old
    → IsSettled old.table.states.items new.table.states.items t (λ s. s.accepts) (λ _. Some v)
    → AreNumbersOf code (places_at old.table.states.items t) v.items
    → new.stepper ≡ length code → new.start ≡ old.start → new.first ≡ old.first
    → new.table.cells ≡ old.table.cells → new.table.wide_cells ≡ old.table.wide_cells
    → new.rows ≡ old.rows → IfSome new.letters (AreLettersOf code) → IsCacheOf code new
cache_numbers code old new t v held settled are =
    cache_settled code old new t (λ s. s.accepts) (λ _. Some v) held settled
    (held.table.rows t settled.0 settled.1).ends
    (subst (λ z. AreNumbersOf code z v.items) (ap places_in settled.1) are)

-- cells of characters past ASCII that were made room for
pub cache_prepared : (code : List Instruction) (old new : Cache) → IsCacheOf code old
    → new.stepper ≡ old.stepper → new.start ≡ old.start → new.first ≡ old.first
    → new.table.states ≡ old.table.states → new.table.cells ≡ old.table.cells
    → (new.table.wide_cells ≡ old.table.wide_cells) ⊎ AreEmpty new.table.wide_cells.items
    → new.rows ≡ old.rows → IfSome new.letters (AreLettersOf code) → IsCacheOf code new
cache_prepared code old new held stepper start first states cells wide rows letters = record {
  size = stepper ∙ held.size;
  letters = letters;
  start = subst (λ n. n ≤ length code) (sym start) held.start;
  table = subst (λ z. IsTable code z.items new.table.cells.items) (sym states)
      (subst (λ z. IsTable code old.table.states.items z.items) (sym cells) held.table);
  wide = elim wide [
    | inl same ↦ subst (λ z. AreWideCells code z.items new.table.wide_cells.items) (sym states)
        (subst (λ z. AreWideCells code old.table.states.items z.items) (sym same) held.wide)
    | inr empty ↦ wide_empty code new.table.states.items new.table.wide_cells.items empty
  ];
  rows = subst (λ z. AreRows code z.items new.rows.keys.items new.rows.cells.items) (sym states)
      (subst (λ z. AreRows code old.table.states.items z.keys.items z.cells.items) (sym rows) held.rows);
  first = subst (λ z. IfSome z (BeginsTexts code new.table.states.items new.start)) (sym first)
      (subst (λ z. IfSome old.first (BeginsTexts code z.items new.start)) (sym states)
      (subst (λ n. IfSome old.first (BeginsTexts code old.table.states.items n)) (sym start) held.first));
}

-- a new state whose places are those that were reached, in the parts that are known
pub state_parted : (code : List Instruction) (c : Cache) (places own : Vec ℕ) (failure : Option ℕ)
    → IfSome failure (AreParted code c)
    → places.items ≡ c.reached.items → IfSome failure (λ _. own.items ≡ c.others.items)
    → IsState code c.table.states.items
    (record { places = places; own = own; failure = failure; accepts = None; numbers = None })
state_parted code c places own (Some at) parted same copied = record {
  ends = tt;
  numbers = tt;
  failure = subst (λ z. IsFailureState code c.table.states.items z own.items at) (sym same)
      (subst (λ z. IsFailureState code c.table.states.items c.reached.items z at) (sym copied) parted);
}
state_parted code c places own None parted same copied = record { ends = tt; numbers = tt; failure = tt }

some_state : {s r : State} → Some s ≡ Some r → s ≡ r
some_state e = cc

-- a state that is kept without its failure state, after all states were removed
pub restarted : (old mid new : Cache) (s taken left : State) (number t : ℕ) → IsCleared old mid
    → IsAdded mid new left number
    → slice_get old.table.states.items t ≡ Some s → slice_get old.table.states.items t ≡ Some taken
    → left.places ≡ taken.places → left.failure ≡ None → left.accepts ≡ taken.accepts
    → left.numbers ≡ None → IsRestarted old new s
restarted old mid new s taken left number t cleared added is took places failure accepts numbers =
    let same : taken ≡ s = some_state (sym took ∙ is) in
    record {
      maker = record {
        stepper = added.maker.stepper ∙ cleared.maker.stepper;
        letters = added.maker.letters ∙ cleared.maker.letters;
        start = added.maker.start ∙ cleared.maker.start;
        lists = record {
          reached = added.maker.lists.reached ∙ cleared.maker.lists.reached;
          others = added.maker.lists.others ∙ cleared.maker.lists.others;
          loops = added.maker.lists.loops ∙ cleared.maker.lists.loops;
        };
      };
      left = left;
      places = places ∙ ap (λ z. z.places) same;
      failure = failure;
      accepts = accepts ∙ ap (λ z. z.accepts) same;
      numbers = numbers;
      states = added.states ∙ ap (λ z. z ++ left ∷ []) cleared.states;
      cells = added.cells ∙ ap (λ z. z ++ replicate 128 0) cleared.cells;
      wide = subst (λ z. AreEmpty z.items) (sym added.wide) cleared.wide;
      row_keys = ap (λ z. z.keys.items) added.rows ∙ cleared.row_keys;
      row_cells = ap (λ z. z.cells.items) added.rows ∙ cleared.row_cells;
      first = added.first ∙ cleared.first;
    }

-- a state that is found after others were added
pub interned_after : (old swapped mid before new : Cache) (places : List ℕ) (t : ℕ) → GrowsBy 1 swapped mid
    → swapped.table ≡ old.table → before.table ≡ mid.table
    → IsInterned 1 before new before.reached.items t → before.reached.items ≡ places
    → IsInterned 2 old new places t
interned_after old swapped mid before new places t first from to then reached = record {
  grows = record {
    kept = keeps_more old.table.states.items mid.table.states.items new.table.states.items
        (subst (λ z. KeepsStates z.states.items mid.table.states.items) from first.kept)
        (subst (λ z. KeepsStates z.states.items new.table.states.items) to then.grows.kept);
    few = omega (
      arith,
      first.few,
      then.grows.few,
      ap (λ z. length z.states.items) from,
      ap (λ z. length z.states.items) to,
    );
  };
  known = then.known;
  places_are = then.places_are ∙ reached;
  room = then.room;
}
