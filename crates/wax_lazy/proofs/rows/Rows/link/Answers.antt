use Rattle.std.proofs.Common.{◌≡◌, ℕ, ◌+◌, ◌-◌, ◌*◌, ◌<◌, ◌≤◌, List, [], ◌∷◌, ◌++◌, length, get_or, set, take}
use Rattle.std.proofs.Common.{replicate, refl, sym, ◌∙◌, ap, subst, arith, length-append}
use Rattle.std.proofs.lemmas.List.{get_or_read}
use Rattle.wax_lazy.specs.inner.Rows.{AreRows, HasRow}
use Rattle.wax_lazy.proofs.RowCells.{link_has, link_rows, linked, row_inside, took}
use Rattle.wax_lazy.proofs.rows.Rows.link.Goals as goal

pub returns-then-is_within-clause-row : goal.returns-then-is_within-clause-row
returns-then-is_within-clause-row c =
    let code = c.args._program.now.0 in
    let states = c.args._table.now.states.items in
    let keys = c.args.self.now.keys.items in
    let cells = c.args.self.now.cells.items in
    let bytes : List ℕ = c.args.bytes.now in
    let count : ℕ = c.args.count in
    let b : ℕ = c.from.result in
    let taken : List ℕ = take count bytes in
    let cell : ℕ = c.from-found.result in
    let fits : get_or bytes count 0 < 256 = (c.type_inv.bytes count).fits in
    let low : b < 256 = omega (arith, c.from.ensures, fits) in
    let inside : c.args.row * 256 + b < length cells = row_inside code states keys cells c.requires.rows
    c.args.row b c.args.state taken c.requires.row low in
    let read : c.index.result.now ≡ get_or cells (c.args.row * 256 + b) 0 =
    get_or_read cells (c.args.row * 256 + b) c.index.result.now inside c.index.ensures 0 in
    let is : get_or cells (c.args.row * 256 + b) 0 ≡ cell = sym read ∙ sym c.from-found.ensures in
    let some : 3 ≤ cell = omega (arith, c.if-found-ge-FIRST_ROW.true) in
    let within : (other : ℕ) → HasRow keys (cell - 3) other [] → ⊥ =
    λ other. c.is_within.ensures other c.if-is_within.true in
    let row : HasRow keys (cell - 3) c.args.state (taken ++ b ∷ []) = linked code states keys cells
    c.requires.rows c.args.row b c.args.state taken c.requires.row low cell is some within in
    let more : taken ++ b ∷ [] ≡ take (count + 1) bytes =
    sym (took bytes count b c.requires.more c.from.ensures) in
    subst (HasRow keys (cell - 3) c.args.state) more row

pub index_mut-requires : goal.index_mut-requires
index_mut-requires c =
    let keys = c.args.self.now.keys.items in
    let cells = c.args.self.now.cells.items in
    let bytes : List ℕ = c.args.bytes.now in
    let count : ℕ = c.args.count in
    let b : ℕ = c.from.result in
    let fits : get_or bytes count 0 < 256 = (c.type_inv.bytes count).fits in
    let low : b < 256 = omega (arith, c.from.ensures, fits) in
    let inside : c.args.row * 256 + b < length cells =
    row_inside c.args._program.now.0 c.args._table.now.states.items keys cells c.requires.rows c.args.row b
    c.args.state (take count bytes) c.requires.row low in
    omega (
      arith,
      inside,
      c.push.new.self.cells.ok.0,
      ap length c.in_ok-made.ensures.cells,
      length-append cells (replicate 256 0),
    )

pub returns-clause-rows : goal.returns-clause-rows
returns-clause-rows c =
    let code = c.args._program.now.0 in
    let states = c.args._table.now.states.items in
    let keys = c.args.self.now.keys.items in
    let cells = c.args.self.now.cells.items in
    let bytes : List ℕ = c.args.bytes.now in
    let count : ℕ = c.args.count in
    let b : ℕ = c.from.result in
    let fits : get_or bytes count 0 < 256 = (c.type_inv.bytes count).fits in
    let low : b < 256 = omega (arith, c.from.ensures, fits) in
    let begun = c.of.ensures ∙ took bytes count b c.requires.more c.from.ensures in
    let made = link_rows code states keys cells c.requires.rows c.args.row b c.args.state
    (take count bytes) c.requires.row low
    (record { state = c.args.state; begun = c.of.result }) c.in_ok-made.made refl begun
    c.in_ok-made.ensures.number c.cell_of_row.result c.cell_of_row.ensures c.requires.has_state in
    subst (λ z. AreRows code states z (set c.push.new.self.cells.items
    (c.args.row * 256 + b) c.cell_of_row.result)) (sym c.in_ok-made.ensures.keys)
    (subst (λ z. AreRows code states (keys ++ (record { state = c.args.state; begun = c.of.result }) ∷ [])
    (set z (c.args.row * 256 + b) c.cell_of_row.result)) (sym c.in_ok-made.ensures.cells) made)

pub returns-clause-row : goal.returns-clause-row
returns-clause-row c =
    let code = c.args._program.now.0 in
    let states = c.args._table.now.states.items in
    let keys = c.args.self.now.keys.items in
    let cells = c.args.self.now.cells.items in
    let bytes : List ℕ = c.args.bytes.now in
    let count : ℕ = c.args.count in
    let b : ℕ = c.from.result in
    let fits : get_or bytes count 0 < 256 = (c.type_inv.bytes count).fits in
    let low : b < 256 = omega (arith, c.from.ensures, fits) in
    let more = took bytes count b c.requires.more c.from.ensures in
    let made = link_has code states keys cells c.requires.rows c.args.row b c.args.state
    (take count bytes) c.requires.row low
    (record { state = c.args.state; begun = c.of.result }) c.in_ok-made.made refl
    (c.of.ensures ∙ more) c.in_ok-made.ensures.number in
    subst (λ z. HasRow z c.in_ok-made.made c.args.state (take (count + 1) bytes))
    (sym c.in_ok-made.ensures.keys)
    (subst (HasRow (keys ++ (record { state = c.args.state; begun = c.of.result }) ∷ []) c.in_ok-made.made
    c.args.state) (sym more) made)
