use Rattle.std.proofs.Common.{rules, arith, ap, ◌∙◌, length, length-append, ◌+◌, ◌++◌, ◌∷◌, [], refl, subst}
use Rattle.std.proofs.Common.{Option, Ok, Err, ◌≡◌}
use Rattle.wax_directory.specs.{Law.HoldsLast, Counting.{Counts, next_counts}}
use Rattle.wax_directory.specs.declared.directory.ListItem.{ListItem}
use Rattle.wax_directory.proofs.Listing.{taken_none, taken_more, coming_end, coming_most, coming_still}
use Rattle.wax_directory.proofs.Listing.{coming_kept, left_dropped, counts_on, counts_end, counts_most}
use Rattle.wax_directory.proofs.Listing.{opening_failed}
use Rattle.wax_directory.proofs.directory.Directory.list.Goals as goal

pub returns-in_err-cursor-clause-list : goal.returns-in_err-cursor-clause-list
returns-in_err-cursor-clause-list g c = λ s h. let o = c.in_err-cursor.ensures.opens [] [] s
    (g.met.Self.Directory.none_open c.args.self.now c.args.path.now s h) h in search rules

pub loop-init : goal.loop-init
loop-init g c = record {
  taken = rw c.new-items.ensures.items
      (taken_none g.Self.Directory.law c.args.path.now c.args.self.now c.open.new.self c.in_ok-cursor.cursor
      (record {
        opens = c.in_ok-cursor.ensures.opens;
        shown = c.in_ok-cursor.ensures.shown;
        held =
            c.in_ok-cursor.ensures.held;
        told = c.in_ok-cursor.ensures.told;
        counted =
            c.in_ok-cursor.ensures.counted;
        answered = c.in_ok-cursor.ensures.answered;
      }));
  turns = ap length c.new-items.ensures.items;
}

pub returns-in-Ok-None-clause-list : goal.returns-in-Ok-None-clause-list
returns-in-Ok-None-clause-list g c = λ s h.
    let law = g.Self.Directory.law in
    coming_end c.loop.items c.args.most (HoldsLast law c.loop.self [] [])
    (HoldsLast law c.next.new.self [] []) c.loop.cursor c.next.new.cursor s c.in-Ok-None.field-0
    c.in-Ok-None.field-0-is (λ l i. c.in-Ok-None.ensures.nexts [] [] l i)
    (c.loop.invariant.taken.coming s [] [] h
    (g.met.Self.Directory.none_open c.args.self.now c.args.path.now s h))
    (omega (arith, c.loop-test.true, c.loop.invariant.turns))

pub returns-in-Ok-None-clause-held : goal.returns-in-Ok-None-clause-held
returns-in-Ok-None-clause-held g c = λ s cursors ls h held.
    let law = g.Self.Directory.law in
    left_dropped law c.next.new.self cursors ls c.next.new.cursor s c.loop.items.items
    (λ l k. g.met.Self.Directory.dropped c.next.new.self cursors ls c.next.new.cursor l k)
    (coming_still (HoldsLast law c.loop.self cursors ls) (HoldsLast law c.next.new.self cursors ls)
    c.loop.cursor c.next.new.cursor c.loop.items.items s c.in-Ok-None.field-0 c.in-Ok-None.field-0-is
    (λ l i. c.in-Ok-None.ensures.nexts cursors ls l i)
    (c.loop.invariant.taken.coming s cursors ls h held))

pub returns-in-Err-clause-held : goal.returns-in-Err-clause-held
returns-in-Err-clause-held g c = λ s cursors ls h held.
    let law = g.Self.Directory.law in
    left_dropped law c.next.new.self cursors ls c.next.new.cursor s c.loop.items.items
    (λ l k. g.met.Self.Directory.dropped c.next.new.self cursors ls c.next.new.cursor l k)
    (coming_kept (HoldsLast law c.loop.self cursors ls c.loop.cursor)
    (HoldsLast law c.next.new.self cursors ls c.next.new.cursor) c.loop.items.items s
    (λ l i. c.in-Err.ensures.nexts cursors ls l i)
    (c.loop.invariant.taken.coming s cursors ls h held))

pub returns-in_default-clause-held : goal.returns-in_default-clause-held
returns-in_default-clause-held g c = λ s cursors ls h held.
    let law = g.Self.Directory.law in
    let e = c.in-Ok-Some.ensures in
    let taken = taken_more law c.args.path.now c.args.self.now c.loop.self c.next.new.self c.loop.cursor
    c.next.new.cursor c.loop.items.items _ c.in-Ok-Some.field-0 c.in-Ok-Some.item c.loop.invariant.taken
    c.in-Ok-Some.field-0-is e.nexts e.shown e.told e.counted refl in
    left_dropped law c.next.new.self cursors ls c.next.new.cursor s
    (c.loop.items.items ++ c.in-Ok-Some.item ∷ [])
    (λ l k. g.met.Self.Directory.dropped c.next.new.self cursors ls c.next.new.cursor l k)
    (taken.coming s cursors ls h held)

pub returns-in_default-clause-counted : goal.returns-in_default-clause-counted
returns-in_default-clause-counted g c =
    let e = c.in-Ok-Some.ensures in
    let taken = taken_more g.Self.Directory.law c.args.path.now c.args.self.now c.loop.self c.next.new.self
    c.loop.cursor c.next.new.cursor c.loop.items.items (c.loop.items.items ++ c.in-Ok-Some.item ∷ [])
    c.in-Ok-Some.field-0 c.in-Ok-Some.item c.loop.invariant.taken c.in-Ok-Some.field-0-is e.nexts e.shown
    e.told e.counted refl in (
      c.loop.items.items ++ c.in-Ok-Some.item ∷ [],
      1,
      omega (
        arith,
        length-append c.loop.items.items (c.in-Ok-Some.item ∷ []),
        c.loop-test.true,
        c.loop.invariant.turns,
      ),
      omega arith,
      taken.counted,
    )

pub returns-in_err-cursor-clause-counted : goal.returns-in_err-cursor-clause-counted
returns-in_err-cursor-clause-counted g c =
    let e : c.from_residual.result ≡ Err c.in_err-cursor.field-0.0 = search rules in
    opening_failed g.row.Self-Cursor.Denot c.args.most c.from_residual.result c.in_err-cursor.field-0.0 _ _ e
    c.in_err-cursor.ensures.counted

pub returns-in-Ok-None-clause-counted : goal.returns-in-Ok-None-clause-counted
returns-in-Ok-None-clause-counted g c =
    let K : Option ListItem → Type 0 =
    λ v. Counts (next_counts (Ok v)) (g.Self.Directory.law.tally c.loop.self)
    (g.Self.Directory.law.tally c.next.new.self) in
    counts_end c.loop.items.items c.args.most _ _ _ c.loop.invariant.taken.counted
    (subst K c.in-Ok-None.field-0-is c.in-Ok-None.ensures.counted)
    (omega (arith, c.loop-test.true, c.loop.invariant.turns))

pub returns-in-Err-clause-counted : goal.returns-in-Err-clause-counted
returns-in-Err-clause-counted g c = (
  c.loop.items.items,
  1,
  omega (arith, c.loop-test.true, c.loop.invariant.turns),
  omega arith,
  counts_on _ _ _ _ c.loop.invariant.taken.counted c.in-Err.ensures.counted,
)

pub returns-clause-counted : goal.returns-clause-counted
returns-clause-counted g c =
    counts_most c.loop.items.items c.args.most _ _ c.loop.invariant.taken.counted
    (omega (arith, c.loop-test.false, c.loop.invariant.turns, c.loop.auto.counter-end))

pub loop-preserved : goal.loop-preserved
loop-preserved g c = record {
  taken = taken_more g.Self.Directory.law c.args.path.now c.args.self.now c.loop.self c.next.new.self
      c.loop.cursor c.next.new.cursor c.loop.items.items c.push.new.self.items c.in-Ok-Some.field-0
      c.in-Ok-Some.item c.loop.invariant.taken c.in-Ok-Some.field-0-is
      c.in-Ok-Some.ensures.nexts c.in-Ok-Some.ensures.shown c.in-Ok-Some.ensures.told
      c.in-Ok-Some.ensures.counted c.in-Ok.ensures.items;
  turns = ap length c.in-Ok.ensures.items ∙ length-append c.loop.items.items (c.in-Ok-Some.item ∷ []) ∙ ap
      (λ n. n + 1) c.loop.invariant.turns;
}

pub returns-clause-list : goal.returns-clause-list
returns-clause-list g c = λ s h.
    let law = g.Self.Directory.law in
    coming_most c.loop.items c.args.most (HoldsLast law c.loop.self [] [] c.loop.cursor) s
    (c.loop.invariant.taken.coming s [] [] h
    (g.met.Self.Directory.none_open c.args.self.now c.args.path.now s h))
    (omega (arith, c.loop-test.false, c.loop.invariant.turns, c.loop.auto.counter-end))

pub returns-clause-held : goal.returns-clause-held
returns-clause-held g c = λ s cursors ls h held.
    left_dropped g.Self.Directory.law c.loop.self cursors ls c.loop.cursor s c.loop.items.items
    (λ l k. g.met.Self.Directory.dropped c.loop.self cursors ls c.loop.cursor l k)
    (c.loop.invariant.taken.coming s cursors ls h held)
