-- Rows that are added, and their cells that are filled.
use Rattle.std.proofs.Common.{◌≡◌, ℕ, suc, ◌+◌, ◌-◌, ◌*◌, ◌<◌, ◌≤◌, ◌⊎◌, ◌↔◌, inl, inr, List, [], ◌∷◌, ◌++◌}
use Rattle.std.proofs.Common.{Some, None, length, get_or, set, replicate, take, take-suc, take_all, drop}
use Rattle.std.proofs.Common.{refl, sym, ◌∙◌, ap, subst, arith, slice_get, length-append, length-set}
use Rattle.std.proofs.Common.{append_assoc, get_or-set_same, get_or-set_other}
use Rattle.std.proofs.lemmas.Bool.{cases_eq, cases_lt}
use Rattle.std.proofs.lemmas.List.{get_or_append_left, get_or-append_right, get_or-replicate}
use Rattle.std.proofs.{lemmas.List.length-replicate, lemmas.Option.slice_get_within}
use Rattle.std.proofs.lemmas.Str.{IsUtf8-past_char, chars_past_char}
use Rattle.std.specs.{Char.encode_utf8, Str.{IsUtf8, chars}}
use Rattle.wax_lazy.specs.{declared.rows.RowKey.RowKey, inner.Cached.DecidesLeft}
use Rattle.wax_lazy.specs.inner.Rows.{AreRows, EndsChar, HasRow, IsCellTo, IsRowCell, LeadsRow, begun_bytes}
use Rattle.wax_lazy.specs.inner.Table.{KeepsStates}
use Rattle.wax_lazy.proofs.Tables.{leads_to_keeps, placed_keeps, places_keep, slice_get_append, slice_get_end}
use Rattle.wax_lazy.proofs.Walking.{next_of}
use Rattle.wax_states.specs.{declared.table.Next.Next, declared.table.Next.TheVariants.To}
use Rattle.wax_states.specs.declared.table.State.{State}
use Rattle.wax_states.specs.States.{IsDead, HasState, LeadsNext, LeadsTo, TakesAll, places_at}
use Rattle.wax_program.specs.{declared.instruction.Instruction.Instruction, Threads.AnyAmong}

no_key : {key : RowKey} → None ≡ Some key → ⊥
no_key e = cc

some_key : {key other : RowKey} → Some key ≡ Some other → key ≡ other
some_key e = cc

pub took : (bytes : List ℕ) (count b : ℕ) → count + 1 < length bytes → b ≡ get_or bytes count 0
    → take (count + 1) bytes ≡ take count bytes ++ b ∷ []
took bytes count b more e =
    let one : suc count ≡ count + 1 = omega arith in
    ap (λ k. take k bytes) (sym one) ∙ take-suc bytes count 0 (omega (arith, more))
    ∙ ap (λ z. take count bytes ++ z ∷ []) (sym e)

all_bytes : (bytes : List ℕ) (b : ℕ) → 1 ≤ length bytes → b ≡ get_or bytes (length bytes - 1) 0
    → take (length bytes - 1) bytes ++ b ∷ [] ≡ bytes
all_bytes bytes b some last =
    let one : suc (length bytes - 1) ≡ length bytes = omega (arith, some) in
    ap (λ z. take (length bytes - 1) bytes ++ z ∷ []) last
    ∙ sym (take-suc bytes (length bytes - 1) 0 (omega (arith, some))) ∙ ap (λ k. take k bytes) one
    ∙ take_all (length bytes) bytes (omega arith)

-- ---- no rows, and rows of states that are kept
pub rows_empty : (code : List Instruction) (states : List State) (keys : List RowKey) (cells : List ℕ)
    → keys ≡ [] → cells ≡ [] → AreRows code states keys cells
rows_empty code states keys cells none empty = record {
  room = omega (arith, ap length none, ap length empty);
  has_state = λ r key is. absurd (no_key (sym (ap (λ z. slice_get z r) none) ∙ is));
  says = λ r b key is low. absurd (no_key (sym (ap (λ z. slice_get z r) none) ∙ is));
}

module _ (code : List Instruction) (old new : List State) (keeps : KeepsStates old new)
    (keys : List RowKey) where
  row_cell_keeps : (key : RowKey) (b cell : ℕ) → HasState old key.state → IsRowCell code old keys key b cell
      → IsRowCell code new keys key b cell
  row_cell_keeps key b cell p (inl e) = inl e
  row_cell_keeps key b cell p (inr (inl (e, (c, ends, dead)))) =
      inr (inl
      (e, (c, ends, subst (λ z. IsDead code z c) (sym (places_keep old new keeps key.state p)) dead)))
  row_cell_keeps key b cell p (inr (inr (inl (e, (c, ends, all))))) =
      inr (inr (inl
      (e, (c, ends, subst (λ z. TakesAll code z c) (sym (places_keep old new keeps key.state p)) all))))
  row_cell_keeps key b cell p (inr (inr (inr (r, e, inl within)))) = inr (inr (inr (r, e, inl within)))
  row_cell_keeps key b cell p (inr (inr (inr (r, e, inr (c, at, ends, row, leads))))) =
      inr (inr (inr (
        r,
        e,
        inr (
          c,
          at,
          ends,
          row,
          subst (λ z. LeadsTo code new z c at) (sym (places_keep old new keeps key.state p))
              (leads_to_keeps old new keeps code (places_at old key.state) c at leads),
        ),
      )))

  pub rows_keep : (cells : List ℕ) → AreRows code old keys cells → AreRows code new keys cells
  rows_keep cells rows = record {
    room = rows.room;
    has_state = λ r key is. placed_keeps old new keeps key.state (rows.has_state r key is);
    says = λ r b key is low. row_cell_keeps key b (get_or cells (256 * r + b) 0) (rows.has_state r key is)
        (rows.says r b key is low);
  }

-- ---- rows that are added
pub has_pushed : (keys : List RowKey) (more : RowKey) (r at : ℕ) (bytes : List ℕ) → HasRow keys r at bytes
    → HasRow (keys ++ more ∷ []) r at bytes
has_pushed keys more r at bytes row = record {
  key = row.key;
  is = slice_get_append keys (more ∷ []) r (slice_get_within keys r row.key row.is) ∙ row.is;
  state = row.state;
  begun = row.begun;
}

pub has_last : (keys : List RowKey) (key : RowKey) (r : ℕ) → r ≡ length keys
    → HasRow (keys ++ key ∷ []) r key.state (begun_bytes key.begun)
has_last keys key r e = record {
  key = key;
  is = ap (slice_get (keys ++ key ∷ [])) e ∙ slice_get_end keys key;
  state = refl;
  begun = refl;
}

module _ (code : List Instruction) (states : List State) (keys : List RowKey) (cells : List ℕ)
    (rows : AreRows code states keys cells) where
  module _ (more : RowKey) (has_state : HasState states more.state) where
    cell_pushed : (key : RowKey) (b cell : ℕ) → IsRowCell code states keys key b cell
        → IsRowCell code states (keys ++ more ∷ []) key b cell
    cell_pushed key b cell (inl e) = inl e
    cell_pushed key b cell (inr (inl dead)) = inr (inl dead)
    cell_pushed key b cell (inr (inr (inl all))) = inr (inr (inl all))
    cell_pushed key b cell (inr (inr (inr (r, e, inl within)))) =
        inr (inr
        (inr (r, e, inl (has_pushed keys more r key.state (begun_bytes key.begun ++ b ∷ []) within))))
    cell_pushed key b cell (inr (inr (inr (r, e, inr (c, at, ends, row, leads))))) =
        inr (inr (inr (r, e, inr (c, at, ends, has_pushed keys more r at [] row, leads))))

    longer : length (keys ++ more ∷ []) ≡ length keys + 1
    longer = length-append keys (more ∷ [])

    before : (r : ℕ) (key : RowKey) → r < length keys → slice_get (keys ++ more ∷ []) r ≡ Some key
        → slice_get keys r ≡ Some key
    before r key lt is = sym (slice_get_append keys (more ∷ []) r lt) ∙ is

    last : (r : ℕ) (key : RowKey) → length keys ≤ r → slice_get (keys ++ more ∷ []) r ≡ Some key
        → (r ≡ length keys) × (more ≡ key)
    last r key ge is =
        let within : r < length (keys ++ more ∷ []) = slice_get_within (keys ++ more ∷ []) r key is in
        let e : r ≡ length keys = omega (arith, within, ge, longer) in
        (e, some_key (sym (slice_get_end keys more) ∙ ap (slice_get (keys ++ more ∷ [])) (sym e) ∙ is))

    pushed_says : (r b : ℕ) (key : RowKey) → slice_get (keys ++ more ∷ []) r ≡ Some key → b < 256
        → IsRowCell code states (keys ++ more ∷ []) key b (get_or (cells ++ replicate 256 0) (256 * r + b) 0)
    pushed_says r b key is low = elim (cases_lt r (length keys)) [
      | inl lt ↦ (let inside : 256 * r + b < length cells = omega (arith, rows.room, lt, low) in
          let cell : get_or (cells ++ replicate 256 0) (256 * r + b) 0 ≡ get_or cells (256 * r + b) 0 =
          get_or_append_left cells (replicate 256 0) 0 (256 * r + b) inside in
          subst (IsRowCell code states (keys ++ more ∷ []) key b) (sym cell)
          (cell_pushed key b (get_or cells (256 * r + b) 0) (rows.says r b key (before r key lt is) low)))
      | inr ge ↦ (let e : r ≡ length keys = (last r key ge is).0 in
          let past : length cells ≤ 256 * r + b = omega (arith, rows.room, e) in
          let few : 256 * r + b - length cells < 256 = omega (arith, rows.room, e, low) in
          inl (get_or-append_right cells (replicate 256 0) (length cells) (256 * r + b) 0 refl past
          ∙ get_or-replicate 256 (256 * r + b - length cells) 0 0 few))
    ]

    pub rows_push : AreRows code states (keys ++ more ∷ []) (cells ++ replicate 256 0)
    rows_push = record {
      room = omega
          (arith, longer, length-append cells (replicate 256 0), length-replicate {A = ℕ} 256 0, rows.room);
      has_state = λ r key is. elim (cases_lt r (length keys)) [
        | inl lt ↦ rows.has_state r key (before r key lt is)
        | inr ge ↦ subst (λ z. HasState states z.state) (last r key ge is).1 has_state
      ];
      says = pushed_says;
    }

  -- ---- cells that are filled
  module _ (r b cell : ℕ) (key : RowKey) (is : slice_get keys r ≡ Some key) (low : b < 256)
      (filled : IsRowCell code states keys key b cell) where
    written_says : (u j : ℕ) (other : RowKey) → slice_get keys u ≡ Some other → j < 256
        → IsRowCell code states keys other j (get_or (set cells (256 * r + b) cell) (256 * u + j) 0)
    written_says u j other that small = elim (cases_eq (256 * u + j) (256 * r + b)) [
      | inl same ↦ (let number : u ≡ r = omega (arith, same, small, low) in
          let column : j ≡ b = omega (arith, same, small, low) in
          let within : r < length keys = slice_get_within keys r key is in
          let inside : 256 * r + b < length cells = omega (arith, rows.room, within, low) in
          let e : get_or (set cells (256 * r + b) cell) (256 * u + j) 0 ≡ cell =
          ap (λ i. get_or (set cells (256 * r + b) cell) i 0) same
          ∙ get_or-set_same cells (256 * r + b) cell 0 inside in
          let one : key ≡ other = some_key (sym is ∙ ap (slice_get keys) (sym number) ∙ that) in
          subst (IsRowCell code states keys other j) (sym e)
          (subst (λ i. IsRowCell code states keys other i cell) (sym column)
          (subst (λ k. IsRowCell code states keys k b cell) one filled)))
      | inr apart ↦
          subst (IsRowCell code states keys other j)
          (sym (get_or-set_other cells (256 * r + b) (256 * u + j) cell 0 apart))
          (rows.says u j other that small)
    ]

    pub rows_write : AreRows code states keys (set cells (256 * r + b) cell)
    rows_write = record {
      room = length-set cells (256 * r + b) cell ∙ rows.room;
      has_state = rows.has_state;
      says = written_says;
    }

  pub row_inside : (r b at : ℕ) (bytes : List ℕ) → HasRow keys r at bytes → b < 256
      → r * 256 + b < length cells
  row_inside r b at bytes row low =
      let within : r < length keys = slice_get_within keys r row.key row.is in
      omega (arith, rows.room, within, low)

  pub row_says : (r b at : ℕ) (bytes : List ℕ) (row : HasRow keys r at bytes) → b < 256
      → IsRowCell code states keys row.key b (get_or cells (r * 256 + b) 0)
  row_says r b at bytes row low =
      let e : 256 * r + b ≡ r * 256 + b = omega arith in
      subst (λ i. IsRowCell code states keys row.key b (get_or cells i 0)) e
      (rows.says r b row.key row.is low)

written_after : {code : List Instruction} {states : List State} (keys : List RowKey) (cells : List ℕ)
    → AreRows code states keys cells → (r b cell : ℕ) (key : RowKey)
    → slice_get keys r ≡ Some key → b < 256 → IsRowCell code states keys key b cell
    → AreRows code states keys (set cells (r * 256 + b) cell)
written_after {code} {states} keys cells rows r b cell key is low filled =
    let e : 256 * r + b ≡ r * 256 + b = omega arith in
    subst (λ i. AreRows code states keys (set cells i cell)) e
    (rows_write code states keys cells rows r b cell key is low filled)

-- ---- a row that follows another
module _ (code : List Instruction) (states : List State) (keys : List RowKey) (cells : List ℕ)
    (rows : AreRows code states keys cells) where
  module _ (r b at : ℕ) (taken : List ℕ) (row : HasRow keys r at taken) (low : b < 256) where
    ends_zero : (cell : ℕ) → 3 ≤ cell → ((other : ℕ) → HasRow keys (cell - 3) other [] → ⊥)
        → IsRowCell code states keys row.key b cell
        → HasRow keys (cell - 3) row.key.state (begun_bytes row.key.begun ++ b ∷ [])
    ends_zero cell some within (inl e) = absurd (omega (arith, e, some))
    ends_zero cell some within (inr (inl (e, dead))) = absurd (omega (arith, e, some))
    ends_zero cell some within (inr (inr (inl (e, all)))) = absurd (omega (arith, e, some))
    ends_zero cell some within (inr (inr (inr (next, e, inl more)))) =
        let same : next ≡ cell - 3 = omega (arith, e) in
        subst (λ z. HasRow keys z row.key.state (begun_bytes row.key.begun ++ b ∷ [])) same more
    ends_zero cell some within (inr (inr (inr (next, e, inr (c, other, ends, first, leads))))) =
        let same : next ≡ cell - 3 = omega (arith, e) in
        absurd (within other (subst (λ z. HasRow keys z other []) same first))

    pub linked : (cell : ℕ) → get_or cells (r * 256 + b) 0 ≡ cell → 3 ≤ cell
        → ((other : ℕ) → HasRow keys (cell - 3) other [] → ⊥)
        → HasRow keys (cell - 3) at (taken ++ b ∷ [])
    linked cell e some within =
        let says : IsRowCell code states keys row.key b cell = subst (IsRowCell code states keys row.key b) e
        (row_says code states keys cells rows r b at taken row low) in
        subst (λ z. HasRow keys (cell - 3) z (taken ++ b ∷ [])) row.state
        (subst (λ z. HasRow keys (cell - 3) row.key.state (z ++ b ∷ [])) row.begun
        (ends_zero cell some within says))

    module _ (more : RowKey) (made : ℕ) (of : more.state ≡ at)
        (bytes : begun_bytes more.begun ≡ taken ++ b ∷ []) (last : made ≡ length keys) where
      pub link_has : HasRow (keys ++ more ∷ []) made at (taken ++ b ∷ [])
      link_has =
          subst (λ z. HasRow (keys ++ more ∷ []) made z (taken ++ b ∷ [])) of
          (subst (HasRow (keys ++ more ∷ []) made more.state) bytes (has_last keys more made last))

      link_says : (cell : ℕ) → (cell ≡ 0) ⊎ (cell ≡ made + 3)
          → IsRowCell code states (keys ++ more ∷ []) row.key b cell
      link_says cell (inl e) = inl e
      link_says cell (inr e) =
          let here : HasRow (keys ++ more ∷ []) made row.key.state (taken ++ b ∷ []) =
          subst (λ z. HasRow (keys ++ more ∷ []) made z (taken ++ b ∷ [])) (sym row.state) link_has in
          inr (inr (inr (
            made,
            e,
            inl (subst (λ z. HasRow (keys ++ more ∷ []) made row.key.state (z ++ b ∷ []))
                (sym row.begun) here),
          )))

      row_is : slice_get (keys ++ more ∷ []) r ≡ Some row.key
      row_is = slice_get_append keys (more ∷ []) r (slice_get_within keys r row.key row.is) ∙ row.is

      pub link_rows : (cell : ℕ) → (cell ≡ 0) ⊎ (cell ≡ made + 3) → HasState states at
          → AreRows code states (keys ++ more ∷ []) (set (cells ++ replicate 256 0) (r * 256 + b) cell)
      link_rows cell named p =
          let has_state : HasState states more.state = subst (HasState states) (sym of) p in
          written_after (keys ++ more ∷ []) (cells ++ replicate 256 0) (rows_push code states keys cells rows
          more has_state) r b cell row.key row_is low (link_says cell named)

  -- ---- the last byte of a character
  cell_next : (key : RowKey) (b c : ℕ) (next : Next) (cell : ℕ) → EndsChar key b c → IsCellTo keys next cell
      → LeadsNext code states (places_at states key.state) c next → IsRowCell code states keys key b cell
  cell_next key b c next cell ends (inl e) leads = inl e
  cell_next key b c next cell ends (inr (inl (e, is))) leads =
      inr (inl (e, (c, ends, subst (LeadsNext code states (places_at states key.state) c) is leads)))
  cell_next key b c next cell ends (inr (inr (inl (e, is)))) leads =
      inr (inr (inl (e, (c, ends, subst (LeadsNext code states (places_at states key.state) c) is leads))))
  cell_next key b c next cell ends (inr (inr (inr (r, at, e, is, first)))) leads =
      inr (inr (inr (
        r,
        e,
        inr (c, at, ends, first, subst (LeadsNext code states (places_at states key.state) c) is leads),
      )))

  pub recorded : (r at c b : ℕ) (bytes : List ℕ) → HasRow keys r at (take (length bytes - 1) bytes)
      → bytes ≡ encode_utf8 c → 1 ≤ length bytes
      → b ≡ get_or bytes (length bytes - 1) 0 → b < 256 → (next : Next) (cell : ℕ) → IsCellTo keys next cell
      → LeadsNext code states (places_at states at) c next
      → AreRows code states keys (set cells (r * 256 + b) cell)
  recorded r at c b bytes row encoded some last low next cell to leads =
      let ends : EndsChar row.key b c = ap (λ z. z ++ b ∷ []) row.begun
      ∙ all_bytes bytes b some last ∙ encoded in
      let here : LeadsNext code states (places_at states row.key.state) c next =
      subst (λ z. LeadsNext code states (places_at states z) c next) (sym row.state) leads in
      written_after keys cells rows r b cell row.key row.is low (cell_next row.key b c next cell ends to here)

-- ---- following a text by rows
-- up to the place `index` the text leads to the row
pub record IsAlong (code : List Instruction) (states : List State) (keys : List RowKey) (places text : List ℕ)
    (index row : ℕ) : Type 0 where
  pub key : RowKey
  pub is : slice_get keys row ≡ Some key
  pub start : ℕ
  pub read : start + length (begun_bytes key.begun) ≡ index
  pub within : index ≤ length text
  pub left : drop start text ≡ begun_bytes key.begun ++ drop index text
  pub utf8 : IsUtf8 (drop start text)
  pub stays : (s : List ℕ) → AnyAmong code places (chars text ++ s)
      ↔ AnyAmong code (places_at states key.state) (chars (drop start text) ++ s)

module _ (code : List Instruction) (states : List State) (keys : List RowKey) (places text : List ℕ)
    (index row : ℕ) (along : IsAlong code states keys places text index row) (lt : index < length text)
    (b : ℕ) (byte : get_or text index 0 ≡ b) where
  -- the byte follows those that were read
  reads : drop along.start text ≡ (begun_bytes along.key.begun ++ b ∷ []) ++ drop (index + 1) text
  reads = along.left ∙ ap (λ z. begun_bytes along.key.begun ++ z)
      (next_of text index lt ∙ ap (λ z. z ∷ drop (index + 1) text) byte)
      ∙ sym (append_assoc (begun_bytes along.key.begun) (b ∷ []) (drop (index + 1) text))

  whole : (c : ℕ) → EndsChar along.key b c → drop along.start text ≡ encode_utf8 c ++ drop (index + 1) text
  whole c ends = reads ∙ ap (λ z. z ++ drop (index + 1) text) ends

  char_first : (c : ℕ) → EndsChar along.key b c → (s : List ℕ)
      → chars (drop along.start text) ++ s ≡ c ∷ chars (drop (index + 1) text) ++ s
  char_first c ends s = ap (λ z. z ++ s)
      (chars_past_char (drop along.start text) (drop (index + 1) text) c along.utf8 (whole c ends))

  along_row : (r : ℕ) → LeadsRow code states keys along.key b r
      → IsAlong code states keys places text (index + 1) r
  along_row r (inl more) = record {
    key = more.key;
    is = more.is;
    start = along.start;
    read =
        omega (arith, along.read, ap length more.begun, length-append (begun_bytes along.key.begun) (b ∷ []));
    within = omega (arith, lt);
    left = reads ∙ ap (λ z. z ++ drop (index + 1) text) (sym more.begun);
    utf8 = along.utf8;
    stays = λ s. subst (λ z. AnyAmong code places (chars text ++ s) ↔ AnyAmong code (places_at states z)
        (chars (drop along.start text) ++ s)) (sym more.state) (along.stays s);
  }
  along_row r (inr (c, at, ends, first, leads)) = record {
    key = first.key;
    is = first.is;
    start = index + 1;
    read = omega (arith, ap length first.begun);
    within = omega (arith, lt);
    left = ap (λ z. z ++ drop (index + 1) text) (sym first.begun);
    utf8 = IsUtf8-past_char (drop along.start text) (drop (index + 1) text) c along.utf8 (whole c ends);
    stays = λ s. subst (λ z. AnyAmong code places (chars text ++ s)
        ↔ AnyAmong code (places_at states z) (chars (drop (index + 1) text) ++ s)) (sym first.state) (
          (λ h. (leads.leads (chars (drop (index + 1) text) ++ s)).0 (subst
              (AnyAmong code (places_at states along.key.state)) (char_first c ends s)
              ((along.stays s).0 h))),
          (λ h. (along.stays s).1 (subst (AnyAmong code (places_at states along.key.state))
              (sym (char_first c ends s)) ((leads.leads (chars (drop (index + 1) text) ++ s)).1 h))),
        );
  }

  module _ (cells : List ℕ) (rows : AreRows code states keys cells) (low : b < 256) where
    says : IsRowCell code states keys along.key b (get_or cells (row * 256 + b) 0)
    says =
        let e : 256 * row + b ≡ row * 256 + b = omega arith in
        subst (λ i. IsRowCell code states keys along.key b (get_or cells i 0)) e
        (rows.says row b along.key along.is low)

    pub along_inside : row * 256 + b < length cells
    along_inside =
        let within : row < length keys = slice_get_within keys row along.key along.is in
        omega (arith, rows.room, within, low)

    step_of : (cell : ℕ) → IsRowCell code states keys along.key b cell → 3 ≤ cell
        → IsAlong code states keys places text (index + 1) (cell - 3)
    step_of cell (inl e) some = absurd (omega (arith, e, some))
    step_of cell (inr (inl (e, dead))) some = absurd (omega (arith, e, some))
    step_of cell (inr (inr (inl (e, all)))) some = absurd (omega (arith, e, some))
    step_of cell (inr (inr (inr (r, e, leads)))) some =
        let same : r ≡ cell - 3 = omega (arith, e) in
        subst (IsAlong code states keys places text (index + 1)) same (along_row r leads)

    pub along_step : (cell : ℕ) → get_or cells (row * 256 + b) 0 ≡ cell → 3 ≤ cell
        → IsAlong code states keys places text (index + 1) (cell - 3)
    along_step cell e some = step_of cell (subst (IsRowCell code states keys along.key b) e says) some

    dead_of : (cell : ℕ) → IsRowCell code states keys along.key b cell → cell ≡ 1 → (s : List ℕ)
        → AnyAmong code places (chars text ++ s) → ⊥
    dead_of cell (inl e) one s h = absurd (omega (arith, e, one))
    dead_of cell (inr (inl (e, (c, ends, dead)))) one s h =
        dead (chars (drop (index + 1) text) ++ s) (subst (AnyAmong code (places_at states along.key.state))
        (char_first c ends s) ((along.stays s).0 h))
    dead_of cell (inr (inr (inl (e, all)))) one s h = absurd (omega (arith, e, one))
    dead_of cell (inr (inr (inr (r, e, leads)))) one s h = absurd (omega (arith, e, one))

    pub along_dead : (cell : ℕ) → get_or cells (row * 256 + b) 0 ≡ cell → cell ≡ 1 → (s : List ℕ)
        → AnyAmong code places (chars text ++ s) → ⊥
    along_dead cell e one = dead_of cell (subst (IsRowCell code states keys along.key b) e says) one

    all_of : (cell : ℕ) → IsRowCell code states keys along.key b cell → cell ≡ 2 → (s : List ℕ)
        → AnyAmong code places (chars text ++ s)
    all_of cell (inl e) two s = absurd (omega (arith, e, two))
    all_of cell (inr (inl (e, dead))) two s = absurd (omega (arith, e, two))
    all_of cell (inr (inr (inl (e, (c, ends, all))))) two s =
        (along.stays s).1 (subst (AnyAmong code (places_at states along.key.state))
        (sym (char_first c ends s)) (all (chars (drop (index + 1) text) ++ s)))
    all_of cell (inr (inr (inr (r, e, leads)))) two s = absurd (omega (arith, e, two))

    pub along_all : (cell : ℕ) → get_or cells (row * 256 + b) 0 ≡ cell → cell ≡ 2 → (s : List ℕ)
        → AnyAmong code places (chars text ++ s)
    along_all cell e two = all_of cell (subst (IsRowCell code states keys along.key b) e says) two

-- where the row's character begins
module _ (code : List Instruction) (states : List State) (keys : List RowKey) (places text : List ℕ)
    (index row : ℕ) (along : IsAlong code states keys places text index row)
    (key : RowKey) (is : slice_get keys row ≡ Some key) where
  same : along.key ≡ key
  same = some_key (sym along.is ∙ is)

  pub begins_at : length (begun_bytes key.begun) + along.start ≡ index
  begins_at = omega (arith, along.read, ap (λ z. length (begun_bytes z.begun)) same)

  pub along_utf8 : (n : ℕ) → n ≡ length (begun_bytes key.begun) → IsUtf8 (drop (index - n) text)
  along_utf8 n e =
      let at : along.start ≡ index - n = omega (arith, begins_at, e) in
      subst (λ z. IsUtf8 (drop z text)) at along.utf8

  pub along_ends : (n : ℕ) (cells : List ℕ) → n ≡ length (begun_bytes key.begun)
      → AreRows code states keys cells
      → DecidesLeft code states places (chars text) (chars (drop (index - n) text)) (To key.state)
  along_ends n cells e rows =
      let at : along.start ≡ index - n = omega (arith, begins_at, e) in (
        rows.has_state row key is,
        (λ s. subst (λ z. AnyAmong code places (chars text ++ s)
            ↔ AnyAmong code (places_at states key.state) (chars (drop z text) ++ s)) at
            (subst (λ k. AnyAmong code places (chars text ++ s) ↔ AnyAmong code (places_at states k.state)
            (chars (drop along.start text) ++ s)) same (along.stays s))),
      )
