use Rattle.std.proofs.Common.{◌≡◌, ◌+◌, ℕ, List, [], ◌∷◌, ◌++◌, true, false, take, subst, sym, ◌∙◌, ap}
use Rattle.std.proofs.lemmas.Bool.{not-true, not-false}
use Rattle.std.specs.{List.list_any, Str.bytes_eq, HashSet.contains_by}
use Rattle.wax_directory.specs.{Names.are_distinct, Nodes.names_of}
use Rattle.wax_directory.proofs.PathNames.{distinct_push}
use Rattle.wax_directory.proofs.Finding.{seen_twice, names_entry, names_other, seen_more}
use Rattle.wax_directory.proofs.tree.hold_distinct_names.Goals.{in-Entry+in_ok-insert+else-not-branch}
use Rattle.wax_directory.proofs.tree.hold_distinct_names.Goals.{in_default}
use Rattle.wax_directory.proofs.tree.hold_distinct_names.Goals as goal

pub returns-then-not-branch : goal.returns-then-not-branch
returns-then-not-branch c =
    let names : List (List ℕ) = names_of (take c.loop-item.item-index c.args.items.now) in
    let had : contains_by (λ k. bytes_eq c.as_str.result.now k.now) c.loop-item.seen ≡ true =
    not-false _ (sym c.in_ok-insert.ensures.added ∙ c.if-not-branch.true) in
    let among : list_any (bytes_eq c.as_str.result.now) names ≡ true =
    sym (c.loop-item.invariant.0 c.as_str.result) ∙ had in
    sym (seen_twice c.args.items.now c.loop-item.item-index c.item-item.result c.in-Entry.name
    c.in-Entry.field-1 c.loop-item-test.true c.item-item.is c.in-Entry.is
    (subst (λ b. list_any (bytes_eq b) names ≡ true) c.as_str.ensures.value among))

pub loop-item-preserved : goal.loop-item-preserved
loop-item-preserved c =
    let names : List (List ℕ) = names_of (take c.loop-item.item-index c.args.items.now) in
    let more : List (List ℕ) = names_of (take (c.loop-item.item-index + 1) c.args.items.now) in
    elim c.match-item.branch [
      | in-Entry+in_ok-insert+else-not-branch w ↦
          let grown : more ≡ names ++ w.as_str.result.now ∷ [] =
          names_entry c.args.items.now c.loop-item.item-index c.item-item.result w.in-Entry.name
          w.in-Entry.field-1 c.loop-item-test.true c.item-item.is w.in-Entry.is ∙ ap
          (λ b. names ++ b ∷ []) (sym w.as_str.ensures.value) in
          let fresh : contains_by (λ k. bytes_eq w.as_str.result.now k.now) c.loop-item.seen ≡ false =
          not-true _ (sym w.in_ok-insert.ensures.added ∙ w.if-not-branch.false) in
          let apart : list_any (bytes_eq w.as_str.result.now) names ≡ false =
          sym (c.loop-item.invariant.0 w.as_str.result) ∙ fresh in (
            (λ q. ap (contains_by (λ k. bytes_eq q.now k.now)) w.seen-is ∙ seen_more names more
                w.as_str.result.now q.now _ _ grown (c.loop-item.invariant.0 q)
                (w.in_ok-insert.ensures.updates.0 q)),
            ap are_distinct grown ∙ distinct_push names w.as_str.result.now apart c.loop-item.invariant.1,
          )
      | in_default w ↦
          let same : more ≡ names = names_other c.args.items.now c.loop-item.item-index c.item-item.result
          c.loop-item-test.true c.item-item.is w.in_default.not-Entry in (
            (λ q. ap (contains_by (λ k. bytes_eq q.now k.now)) w.seen-is ∙ c.loop-item.invariant.0 q ∙ ap
                (list_any (bytes_eq q.now)) (sym same)),
            ap are_distinct same ∙ c.loop-item.invariant.1,
          )
    ]
