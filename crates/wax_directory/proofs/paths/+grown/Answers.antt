use Rattle.std.proofs.Common.{◌≡◌, ◌<◌, ◌++◌, ℕ, List, [], ◌∷◌, Bor, None, refl, sym, ◌∙◌, ap, subst}
use Rattle.std.proofs.Common.{option_map, drop, ◌+◌, arith}
use Rattle.std.specs.List.{filter_map}
use Rattle.wax_directory.specs.{declared.tree.TreeItem.TreeItem, declared.tree.TreeItem.TheVariants.Entry}
use Rattle.wax_directory.specs.{Names.are_distinct, Nodes.names_of}
use Rattle.wax_directory.specs.PathTails.{PathTail, first_name, below_name, with_new}
use Rattle.wax_directory.specs.inner.Growing.{new_name, Grows}
use Rattle.wax_directory.proofs.{Cursors.none_of, PathNames.distinct_push}
use Rattle.wax_directory.proofs.Planting.{total, below_less, below_some, is_new, IsNewOf, new_of, names_same}
use Rattle.wax_directory.proofs.Planting.{names_grown, names_all, file_grows, file_distinct, entry_grown}
use Rattle.wax_directory.proofs.Planting.{entry_named, folder_grows, grown_distinct, AreGrown}
use Rattle.wax_directory.specs.declared.tree.Node.TheViews as V
use Rattle.wax_directory.proofs.paths.+grown.Goals as goal
use Rattle.wax_directory.proofs.paths.+grown.Goals.{
  in-Some+in_ok-tails_below+in_ok-node+in_ok-from_str+in_ok-push,
}
use Rattle.wax_directory.proofs.paths.+grown.Goals.{in_default}

pub returns-then-not-lead_on-clause-stands : goal.returns-then-not-lead_on-clause-stands
returns-then-not-lead_on-clause-stands t c = λ some. file_grows c.args.tails.now some
    (sym c.lead_on.ensures ∙ c.if-not-lead_on.true)

pub returns-then-not-lead_on-clause-distinct : goal.returns-then-not-lead_on-clause-distinct
returns-then-not-lead_on-clause-distinct t c = file_distinct

pub grown-requires : goal.grown-requires
grown-requires t c =
    let tails : List PathTail = c.args.tails.now in
    let x : List ℕ = c.in-Some.name.now in
    let new : IsNewOf (names_of c.loop-tail.items.items) (first_name c.tail-item.result) x =
    new_of (first_name c.tail-item.result) (names_of c.loop-tail.items.items) x
    (c.in-Some.ensures ∙ ap (λ l. new_name (names_of l) (first_name c.tail-item.result))
    c.as_slice.ensures.value) in
    let less : total (below_name x tails) < total tails =
    below_less x tails c.loop-tail.tail-index c.tail-item.result c.loop-tail-test.true
    (ap first_name (sym c.tail-item.is) ∙ new.0) in
    let same : total c.as_slice-in-Some.result.now ≡ total (below_name x tails) =
    ap total (c.as_slice-in-Some.ensures.value ∙ c.in_ok-tails_below.ensures) in
    (omega (arith, less, same, c.decreases), tt)

pub loop-tail-preserved : goal.loop-tail-preserved
loop-tail-preserved t c =
    let tails : List PathTail = c.args.tails.now in
    let items : List TreeItem = c.loop-tail.items.items in
    let at : ℕ = c.loop-tail.tail-index in
    let r : PathTail = c.tail-item.result in
    elim c.match-new_name.branch [
      | in-Some+in_ok-tails_below+in_ok-node+in_ok-from_str+in_ok-push w ↦
          let x : List ℕ = w.in-Some.name.now in
          let new : IsNewOf (names_of items) (first_name r) x =
          new_of (first_name r) (names_of items) x
          (w.in-Some.ensures ∙ ap (λ l. new_name (names_of l) (first_name r)) c.as_slice.ensures.value) in
          let some : ¬ (below_name x tails ≡ []) =
          below_some x tails at r c.loop-tail-test.true (ap first_name (sym c.tail-item.is) ∙ new.0) in
          let group : w.as_slice-in-Some.result.now ≡ below_name x tails =
          w.as_slice-in-Some.ensures.value ∙ w.in_ok-tails_below.ensures in
          let grows : Grows (below_name x tails) w.in_ok-node.node =
          subst (λ l. ¬ (l ≡ []) → Grows l w.in_ok-node.node) group w.in_ok-node.ensures.stands some in
          let more : c.match-new_name.items.items
          ≡ items ++ Entry w.in_ok-from_str.field-0 w.in_ok-node.node ∷
          [] = ap (λ v. v.items) w.items-is ∙ w.in_ok-push.ensures.items in
          let named : names_of c.match-new_name.items.items ≡ names_of items ++ x ∷ [] =
          entry_named items c.match-new_name.items.items w.in_ok-from_str.field-0 w.in_ok-node.node x more
          w.in_ok-from_str.ensures.ok in
          record {
            names = sym (names_grown (names_of items) (names_of c.match-new_name.items.items) tails at r x
                c.loop-tail-test.true c.tail-item.is new named) ∙ c.loop-tail.invariant.names;
            distinct = ap are_distinct named ∙ distinct_push (names_of items) x
                (is_new x (names_of items) new.1) c.loop-tail.invariant.distinct;
            grown = entry_grown tails items c.match-new_name.items.items w.in_ok-from_str.field-0
                w.in_ok-node.node x more w.in_ok-from_str.ensures.ok c.loop-tail.invariant.grown some grows
                w.in_ok-node.ensures.distinct;
          }
      | in_default w ↦
          let none : None ≡ new_name (names_of items) (first_name r) =
          sym (ap (option_map (λ (y : Bor (List ℕ)). y.now))
          (none_of c.new_name.result w.in_default.not-Some))
          ∙ c.new_name.ensures ∙ ap (λ l. new_name (names_of l) (first_name r)) c.as_slice.ensures.value in
          let kept : c.match-new_name.items.items ≡ items = ap (λ v. v.items) w.items-is in
          record {
            names = ap (λ l. with_new (names_of l) (filter_map first_name (drop (at + 1) tails))) kept ∙ sym
                (names_same (names_of items) tails at r c.loop-tail-test.true c.tail-item.is none)
                ∙ c.loop-tail.invariant.names;
            distinct = ap (λ l. are_distinct (names_of l)) kept ∙ c.loop-tail.invariant.distinct;
            grown = subst (AreGrown tails) (sym kept) c.loop-tail.invariant.grown;
          }
    ]

pub returns-clause-stands : goal.returns-clause-stands
returns-clause-stands t c = λ some.
    folder_grows c.args.tails.now (V.Folder c.loop-tail.items) c.loop-tail.items refl
    (sym c.lead_on.ensures ∙ c.if-not-lead_on.false)
    (names_all (names_of c.loop-tail.items.items) _ c.args.tails.now c.loop-tail.tail-index
    c.loop-tail-test.false c.loop-tail.invariant.names)
    c.loop-tail.invariant.grown

pub returns-clause-distinct : goal.returns-clause-distinct
returns-clause-distinct t c = grown_distinct c.args.tails.now (V.Folder c.loop-tail.items)
    c.loop-tail.items refl c.loop-tail.invariant.distinct c.loop-tail.invariant.grown
