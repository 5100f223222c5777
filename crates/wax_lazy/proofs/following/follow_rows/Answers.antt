use Rattle.std.proofs.Common.{◌≡◌, ℕ, ◌+◌, ◌-◌, ◌*◌, ◌<◌, ◌≤◌, List, length, get_or, refl, sym, ◌∙◌, arith}
use Rattle.std.proofs.{lemmas.List.get_or_read, lemmas.Option.{slice_get_read, slice_get_within}}
use Rattle.wax_lazy.proofs.RowCells.{IsAlong, along_all, along_dead, along_ends, along_inside, along_step}
use Rattle.wax_lazy.proofs.RowCells.{along_utf8, begins_at}
use Rattle.wax_states.specs.States.{places_at}
use Rattle.wax_lazy.proofs.following.follow_rows.Goals as goal

pub returns-then-cell-eq-DEAD-clause-decides : goal.returns-then-cell-eq-DEAD-clause-decides
returns-then-cell-eq-DEAD-clause-decides c =
    let code = c.args._program.now.0 in
    let states = c.args.cache.now.table.states.items in
    let rows = c.args.cache.now.rows in
    let text : List ℕ = c.args.text.now in
    let l = c.loop-index in
    let at : ℕ = c.args._state in
    let places : List ℕ = places_at states at in
    let b : ℕ = c.from.result in
    let fits : get_or text l.index 0 < 256 = (c.type_inv.text l.index).fits in
    let low : b < 256 = omega (arith, c.from.ensures, fits) in
    let held : IsAlong code states rows.keys.items places text l.index (l.here - 3) = l.invariant.along in
    let inside : (l.here - 3) * 256 + b < length rows.cells.items =
    along_inside code states rows.keys.items places text l.index (l.here - 3) held c.loop-index-test.true b
    (sym c.from.ensures) rows.cells.items c.requires.cache.rows low in
    let read : c.index-cell.result.now ≡ get_or rows.cells.items ((l.here - 3) * 256 + b) 0 = get_or_read
    rows.cells.items ((l.here - 3) * 256 + b) c.index-cell.result.now inside c.index-cell.ensures 0 in
    along_dead code states rows.keys.items places text l.index (l.here - 3) held c.loop-index-test.true b
    (sym c.from.ensures) rows.cells.items c.requires.cache.rows low
    c.index-cell.result.now (sym read) c.if-cell-eq-DEAD.true

pub returns-then-cell-eq-ALL-clause-decides : goal.returns-then-cell-eq-ALL-clause-decides
returns-then-cell-eq-ALL-clause-decides c =
    let code = c.args._program.now.0 in
    let states = c.args.cache.now.table.states.items in
    let rows = c.args.cache.now.rows in
    let text : List ℕ = c.args.text.now in
    let l = c.loop-index in
    let at : ℕ = c.args._state in
    let places : List ℕ = places_at states at in
    let b : ℕ = c.from.result in
    let fits : get_or text l.index 0 < 256 = (c.type_inv.text l.index).fits in
    let low : b < 256 = omega (arith, c.from.ensures, fits) in
    let held : IsAlong code states rows.keys.items places text l.index (l.here - 3) = l.invariant.along in
    let inside : (l.here - 3) * 256 + b < length rows.cells.items =
    along_inside code states rows.keys.items places text l.index (l.here - 3) held c.loop-index-test.true b
    (sym c.from.ensures) rows.cells.items c.requires.cache.rows low in
    let read : c.index-cell.result.now ≡ get_or rows.cells.items ((l.here - 3) * 256 + b) 0 = get_or_read
    rows.cells.items ((l.here - 3) * 256 + b) c.index-cell.result.now inside c.index-cell.ensures 0 in
    along_all code states rows.keys.items places text l.index (l.here - 3) held c.loop-index-test.true b
    (sym c.from.ensures) rows.cells.items c.requires.cache.rows low
    c.index-cell.result.now (sym read) c.if-cell-eq-ALL.true

pub loop-index-preserved : goal.loop-index-preserved
loop-index-preserved c =
    let code = c.args._program.now.0 in
    let states = c.args.cache.now.table.states.items in
    let rows = c.args.cache.now.rows in
    let text : List ℕ = c.args.text.now in
    let l = c.loop-index in
    let at : ℕ = c.args._state in
    let places : List ℕ = places_at states at in
    let b : ℕ = c.from.result in
    let fits : get_or text l.index 0 < 256 = (c.type_inv.text l.index).fits in
    let low : b < 256 = omega (arith, c.from.ensures, fits) in
    let held : IsAlong code states rows.keys.items places text l.index (l.here - 3) = l.invariant.along in
    let inside : (l.here - 3) * 256 + b < length rows.cells.items =
    along_inside code states rows.keys.items places text l.index (l.here - 3) held c.loop-index-test.true b
    (sym c.from.ensures) rows.cells.items c.requires.cache.rows low in
    let read : c.index-cell.result.now ≡ get_or rows.cells.items ((l.here - 3) * 256 + b) 0 = get_or_read
    rows.cells.items ((l.here - 3) * 256 + b) c.index-cell.result.now inside c.index-cell.ensures 0 in
    let cell : ℕ = c.from-here.result in
    let is : get_or rows.cells.items ((l.here - 3) * 256 + b) 0 ≡ cell = sym read ∙ sym c.from-here.ensures in
    let some : 3 ≤ cell = omega (arith, c.from-here.ensures, c.if-cell-lt-FIRST.false) in
    record {
      along =
          along_step code states rows.keys.items places text l.index (l.here - 3) held c.loop-index-test.true
          b (sym c.from.ensures) rows.cells.items c.requires.cache.rows low cell is some;
      named = some;
    }

pub index-key-requires : goal.index-key-requires
index-key-requires c =
    let keys = c.args.cache.now.rows.keys in
    let l = c.loop-index in
    let within : l.here - 3 < length keys.items =
    slice_get_within keys.items (l.here - 3) l.invariant.along.key l.invariant.along.is in
    omega (arith, within, keys.ok.0)

pub overflow_sub-result : goal.overflow_sub-result
overflow_sub-result c =
    let l = c.loop-index in
    let keys = c.args.cache.now.rows.keys.items in
    let is = slice_get_read keys (length keys) (l.here - 3) c.index-key.result.now refl
    (slice_get_within keys (l.here - 3) l.invariant.along.key l.invariant.along.is) c.index-key.ensures in
    let begins = begins_at c.args._program.now.0 c.args.cache.now.table.states.items keys
    (places_at c.args.cache.now.table.states.items c.args._state) c.args.text.now l.index
    (l.here - 3) l.invariant.along c.index-key.result.now is in
    omega (arith, begins, c.len.ensures)

pub returns-clause-utf8 : goal.returns-clause-utf8
returns-clause-utf8 c =
    let l = c.loop-index in
    let keys = c.args.cache.now.rows.keys.items in
    let is = slice_get_read keys (length keys) (l.here - 3) c.index-key.result.now refl
    (slice_get_within keys (l.here - 3) l.invariant.along.key l.invariant.along.is) c.index-key.ensures in
    along_utf8 c.args._program.now.0 c.args.cache.now.table.states.items keys
    (places_at c.args.cache.now.table.states.items c.args._state) c.args.text.now l.index
    (l.here - 3) l.invariant.along c.index-key.result.now is
    c.len.result c.len.ensures

pub returns-clause-decides : goal.returns-clause-decides
returns-clause-decides c =
    let l = c.loop-index in
    let keys = c.args.cache.now.rows.keys.items in
    let is = slice_get_read keys (length keys) (l.here - 3) c.index-key.result.now refl
    (slice_get_within keys (l.here - 3) l.invariant.along.key l.invariant.along.is) c.index-key.ensures in
    along_ends c.args._program.now.0 c.args.cache.now.table.states.items keys
    (places_at c.args.cache.now.table.states.items c.args._state) c.args.text.now l.index
    (l.here - 3) l.invariant.along c.index-key.result.now is
    c.len.result c.args.cache.now.rows.cells.items c.len.ensures c.requires.cache.rows
