use Rattle.std.proofs.Common.{◌≡◌, ◌∷◌, ◌++◌, [], length, drop, None, ◌∙◌, ap, sym, arith}
use Rattle.std.proofs.lemmas.List.{length-append}
use Rattle.std.specs.List.{flat_map}
use Rattle.wax_rule.specs.inner.Queue.{children, only_branches}
use Rattle.wax_facts.specs.Situated.{Situated}
use Rattle.wax_rule.proofs.Branches.{branches_of_branches, listed, listed_branches, next_branches, row_after}
use Rattle.wax_rule.proofs.{Branches.shorter_after, Levels.first_row}
use Rattle.wax_rule.proofs.rule.situated.breadth_first.Goals as goal

pub loop-from-init : goal.loop-from-init
loop-from-init c =
    let whole : Situated = record { token = c.args.whole.now; left = None; right = None } in
    let e : c.push_branch.new.row.items ≡ only_branches (whole ∷ []) =
    c.in_ok-push_branch.ensures
    ∙ ap (λ z. z ++ only_branches (whole ∷ [])) c.new-row.ensures.items in
    record {
      within = omega arith;
      branches = ap only_branches e ∙ branches_of_branches (whole ∷ []) ∙ sym e;
      row = ap (λ z. only_branches (listed z)) e ∙ listed_branches (whole ∷ [])
          ∙ ap only_branches (first_row c.args.whole.now);
    }

pub loop-from-smaller : goal.loop-from-smaller
loop-from-smaller c =
    shorter_after c.loop-from.row.items c.push_level.new.row.items c.loop-from.from c.len-to.result
    (omega arith) (omega arith) c.in_ok-push_level.ensures

pub loop-from-preserved : goal.loop-from-preserved
loop-from-preserved c =
    let row = c.loop-from.row.items in
    let new = c.push_level.new.row.items in
    let len : length new ≡ _ = ap length c.in_ok-push_level.ensures in
    let next =
    next_branches row new c.loop-from.from c.len-to.result (omega arith) c.in_ok-push_level.ensures in
    record {
      within = omega (arith, len, length-append {A = Situated});
      branches = ap only_branches next
          ∙ branches_of_branches (flat_map children (drop c.loop-from.from row)) ∙ sym next;
      row = row_after row new c.loop-from.from c.len-to.result (omega arith) c.in_ok-push_level.ensures
          c.loop-from.invariant.branches ∙ c.loop-from.invariant.row;
    }
