use Rattle.std.proofs.{Common.{◌≡◌, ◌≤◌, ◌++◌, ◌∷◌, [], ℕ, length, rules, arith, ap}, lemmas.List.length_push}
use Rattle.wax_token.specs.Cost.{cost}
use Rattle.wax_lengths.specs.Forms.{form_size}
use Rattle.wax_capture.specs.Pieces.{forms_of}
use Rattle.wax_capture.proofs.{Branches.{sizes_push, stands, ways_all, ways_push}, TokenWays.refused_more}
use Rattle.wax_capture.proofs.ways.branch_ways.Goals as goal

pub loop-branch-preserved : goal.loop-branch-preserved
loop-branch-preserved g c =
    let ts = c.args.branches.now in
    let i : ℕ = c.loop-branch.branch-index in
    let t = c.branch-item.result in
    let s = stands ts i t c.loop-branch-test.true c.branch-item.is in
    let form = c.in-Ok.form in
    let same : c.add_form.new.forms.items ≡ c.loop-branch.forms.items ++ form ∷ [] = search rules in
    let few : form_size form ≤ cost t = c.in-Ok.ensures.few in
    record {
      count = omega
          (arith, ap length same, length_push c.loop-branch.forms.items form, c.loop-branch.invariant.count);
      ways = rw same (ways_push ts c.args.sides.before c.args.sides.after c.loop-branch.forms.items i form
          c.loop-branch.invariant.count t s c.in-Ok.ensures.means c.loop-branch.invariant.ways);
      few = rw same (omega
          (arith, sizes_push c.loop-branch.forms.items form, c.loop-branch.invariant.few, s.cheap, few));
    }

pub returns-clause-ways : goal.returns-clause-ways
returns-clause-ways g c =
    let same : forms_of c.in_ok-linked.field-0 ≡ c.loop-branch.forms.items = search rules in
    rw same (ways_all c.args.branches.now c.args.sides.before c.args.sides.after c.loop-branch.forms.items
    c.loop-branch.branch-index c.loop-branch-test.false c.loop-branch.invariant.count
    c.loop-branch.invariant.ways)

pub returns-in-Err-clause-few : goal.returns-in-Err-clause-few
returns-in-Err-clause-few g c =
    let t = c.branch-item.result in
    let s =
    stands c.args.branches.now c.loop-branch.branch-index t c.loop-branch-test.true c.branch-item.is in
    refused_more c.in-Err.refusal _ _ _ _ (λ h. omega (arith, h, s.part)) c.in-Err.ensures.few
